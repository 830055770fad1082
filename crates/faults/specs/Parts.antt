-- Small laws that both passes of the checker use. Assumes nothing.
use Rattle.std.specs.Prelude.{ℕ, ◌+◌, ◌-◌, ◌<◌, true, List, ◌≡◌, refl, get_or, set}
use Rattle.std.proofs.Common.{set-set}
use Rattle.std.proofs.lemmas.List.{set-get_or}
use Rattle.definitions.specs.Image.{kind_of, payload_of, op_of, called_of}
use Rattle.definitions.specs.Reading.{read_expression, read_statement}
use Rattle.laws.specs.Parses.{ok}
use Rattle.laws.specs.WordTests.{binary_limit}
use Rattle.laws.specs.ExpressionInversion.{open_expression}
use Rattle.image_words.specs.Read.{arguments_at}
use Rattle.image_words.specs.StatementParts.{read_call, read_called}
use Rattle.tables.specs.Looking.{Listed, listed_below}

-- there are fifteen binary operators
pub operator_limit : (l : ℕ) (image : List ℕ) (at : ℕ) → ok (read_expression l image at) ≡ true → kind_of (get_or image at 0) ≡ 13
    → (p : ℕ) → p ≡ payload_of (get_or image at 0) → p < 15
operator_limit l image at t k p e = rw e (binary_limit (get_or image at 0) (open_expression l image at t).2 k)

-- a call names a procedure before its own, and has as many values as that one has parameters
module _ (l : ℕ) (params : List ℕ) (me : ℕ) (image : List ℕ) (at : ℕ) (t : ok (read_statement l params me image at) ≡ true)
    (k : op_of (get_or image at 0) ≡ 5) (f : ℕ) (hf : f ≡ called_of (get_or image at 0)) where
  pub call_listed : (table : List ℕ) → Listed image table me → Listed image table f
  call_listed table h = listed_below image table me f h (rw hf (read_called l params me image at t _ refl k))

  pub call_reads : ok (arguments_at (get_or params f 0) (l - 1) image (at + 1)) ≡ true
  call_reads = rw hf (read_call l params me image at t _ refl k)

-- what a for puts aside of its variable is put back behind its block
pub put_back : {A : Type 0} (d : A) (xs before inner after : List A) (i : ℕ) (v old : A) → old ≡ get_or xs i d → before ≡ set xs i v → inner ≡ before → after ≡ set inner i old
    → after ≡ xs
put_back d xs before inner after i v old g h e j = rw (j, e, h, g, set-set) (set-get_or xs i d)
