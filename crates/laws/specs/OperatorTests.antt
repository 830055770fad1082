-- Operators by their number: which divide and which shift, and which operands of those have to be public. Assumes nothing.
use Rattle.std.specs.Prelude.{ℕ, ◌≤◌, ◌<◌, Bool, true, false, ◌||◌, ◌≡◌, refl, eqb}
use Rattle.std.proofs.Common.{arith, ne_eqb, eqb-true}
use Rattle.std.proofs.lemmas.Bool.{eqb-false}
use Rattle.definitions.specs.Operators.{operator, both, right, divides, shifts}

-- an operator that divides is 9 or 10
pub division_cases : (P : ℕ → Type 0) → P 9 → P 10 → (o : ℕ) → divides o ≡ true → P o
division_cases P nine ten o h = go (eqb o 9) refl h
  where
    go : (b : Bool) → eqb o 9 ≡ b → (b || eqb o 10) ≡ true → P o
    go true e f = rw (eqb-true o 9 e) nine
    go false e f = rw (eqb-true o 10 f) ten

-- one that shifts is 6, 7 or 8
pub shift_cases : (P : ℕ → Type 0) → P 6 → P 7 → P 8 → (o : ℕ) → shifts o ≡ true → P o
shift_cases P six seven eight o h = go (eqb o 6) (eqb o 7) refl refl h
  where
    go : (b c : Bool) → eqb o 6 ≡ b → eqb o 7 ≡ c → (b || c || eqb o 8) ≡ true → P o
    go true c e d f = rw (eqb-true o 6 e) six
    go false true e d f = rw (eqb-true o 7 d) seven
    go false false e d f = rw (eqb-true o 8 f) eight

-- "Indices, loop bounds, shift counts and both sides of a division are public."
pub division_publics : (o : ℕ) → divides o ≡ true → (operator o).publics ≡ both
division_publics = division_cases (λ o. (operator o).publics ≡ both) refl refl

pub shift_publics : (o : ℕ) → shifts o ≡ true → (operator o).publics ≡ right
shift_publics = shift_cases (λ o. (operator o).publics ≡ right) refl refl refl

-- none does both
pub shift_no_division : (o : ℕ) → shifts o ≡ true → divides o ≡ false
shift_no_division = shift_cases (λ o. divides o ≡ false) refl refl refl

-- ---- by where an operator stands in the table

pub shift_between : (o : ℕ) → 6 ≤ o → o < 9 → shifts o ≡ true
shift_between o h g = go (eqb o 6) (eqb o 7) refl refl
  where
    go : (b c : Bool) → eqb o 6 ≡ b → eqb o 7 ≡ c → (b || c || eqb o 8) ≡ true
    go true c e d = refl
    go false true e d = refl
    go false false e d = let f = eqb-false o 6 e in let i = eqb-false o 7 d in let k : o ≡ 8 = omega arith in rw k

pub division_between : (o : ℕ) → 9 ≤ o → o < 11 → divides o ≡ true
division_between o h g = go (eqb o 9) refl
  where
    go : (b : Bool) → eqb o 9 ≡ b → (b || eqb o 10) ≡ true
    go true e = refl
    go false e = let f = eqb-false o 9 e in let k : o ≡ 10 = omega arith in rw k

-- before 6 and from 11 on an operator neither divides nor shifts
pub neither_outside : (o : ℕ) → (6 ≤ o → 11 ≤ o) → (divides o ≡ false) × (shifts o ≡ false)
neither_outside o h = (
  rw (other 9 (omega arith) (omega arith), other 10 (omega arith) (omega arith)),
  rw (other 6 (omega arith) (omega arith), other 7 (omega arith) (omega arith), other 8 (omega arith) (omega arith)),
)
  where
    other : (n : ℕ) → 6 ≤ n → n < 11 → eqb o n ≡ false
    other n i j = ne_eqb o n (λ e. absurd (let k : 11 ≤ o = h (omega arith) in omega arith))
