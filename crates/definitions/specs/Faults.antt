-- Document 01, "From the image or request": of the faults of one group, "each later group takes the lowest place. On
-- one word the lowest number wins."
use Rattle.std.specs.Prelude.{ℕ, Bool, ◌&&◌, ◌||◌, not, List, [], ◌∷◌, ltb, eqb}
use Rattle.definitions.specs.Choice.{pick}
use Rattle.definitions.specs.declared.Fault.{Fault}

abbrev pub fault : ℕ → ℕ → Fault
fault n p = record { number = n; place = p }

-- number 0 stands for no fault
abbrev pub no_fault : Fault
no_fault = fault 0 0

-- whether a fault goes before another: that one is none, or has a higher place, or on the same word a higher number
abbrev pub before : Fault → Fault → Bool
before a b = not (eqb a.number 0)
    && (eqb b.number 0 || (ltb a.place b.place || eqb a.place b.place && ltb a.number b.number))

abbrev pub lower : Fault → Fault → Fault
lower a b = pick (before b a) b a

-- the lowest of a fault and a list of them
unfoldable pub least : Fault → List Fault → Fault
least b [] = b
least b (f ∷ fs) = least (lower b f) fs

-- the fault of a rule that is broken where the test is true
abbrev pub fault_if : Bool → ℕ → ℕ → List Fault
fault_if c n p = pick c (fault n p ∷ []) []
