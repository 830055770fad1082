-- What the code answers for what the definition reads. Assumes nothing.
use Rattle.std.specs.Prelude.{ℕ, Bool, List, Result, Ok, Err, ⊤, leb, length, get_or}
use Rattle.definitions.specs.Choice.{pick}
use Rattle.definitions.specs.declared.Fault.{Fault}
use Rattle.definitions.specs.Faults.{fault}
use Rattle.definitions.specs.Reading.{Parse, got, refused}

-- of a part that was read the place after it; or the refusal
unfoldable pub answer : {A : Type 0} → Parse A → Result ℕ Fault
answer (got a n) = Ok n
answer (refused n p) = Err (fault n p)

-- one word: "3 [length] ends early"
unfoldable pub word_at : List ℕ → ℕ → Result ℕ Fault
word_at image at = pick (leb (length image) at) (Err (fault 3 (length image))) (Ok (get_or image at 0))

-- the refusal, unless the test holds
abbrev pub ensured : Bool → ℕ → ℕ → Result ⊤ Fault
ensured holds n p = pick holds (Ok tt) (Err (fault n p))
