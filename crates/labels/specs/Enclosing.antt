-- The enclosing for over each variable, as a list of fors: unbounded stands for none. Assumes nothing.
use Rattle.std.specs.Prelude.{ℕ, zero, suc, ◌≤◌, ◌<◌, List, [], ◌∷◌, ◌≡◌, refl, length, get_or, set, replicate}
use Rattle.std.proofs.Common.{arith, ap}
use Rattle.definitions.specs.declared.ConstantLoop.{ConstantLoop}
use Rattle.definitions.specs.Labels.{unbounded}

unfoldable pub bounds_in : List ConstantLoop → List ConstantLoop
bounds_in ls = ls

-- ---- the for around variable x

pub bounds_there : (ls : List ConstantLoop) (x : ℕ) (d : ConstantLoop) → x < length ls
    → get_or (bounds_in ls) x unbounded ≡ get_or ls x d
unfolding bounds_in
bounds_there [] x d h = absurd (omega arith)
bounds_there (l ∷ ls) zero d h = refl
bounds_there (l ∷ ls) (suc x) d h = bounds_there ls x d (omega arith)

pub bounds_past : (ls : List ConstantLoop) (x : ℕ) → length ls ≤ x → get_or (bounds_in ls) x unbounded ≡ unbounded
unfolding bounds_in
bounds_past [] x h = refl
bounds_past (l ∷ ls) zero h = absurd (omega arith)
bounds_past (l ∷ ls) (suc x) h = bounds_past ls x (omega arith)

pub bounds_put : (ls : List ConstantLoop) (x : ℕ) (l : ConstantLoop) → bounds_in (set ls x l) ≡ set (bounds_in ls) x l
unfolding bounds_in
bounds_put ls x l = refl

pub bounds_kept : (ls : List ConstantLoop) (x : ℕ) (b : ConstantLoop) → length ls ≤ x → bounds_in ls ≡ set (bounds_in ls) x b
unfolding bounds_in
bounds_kept [] x b h = refl
bounds_kept (l ∷ ls) zero b h = absurd (omega arith)
bounds_kept (l ∷ ls) (suc x) b h = ap (λ bs. l ∷ bs) (bounds_kept ls x b (omega arith))

-- no for stands around the body of a procedure
pub bounds_none : (n : ℕ) → bounds_in (replicate n unbounded) ≡ replicate n unbounded
unfolding bounds_in
bounds_none n = refl
