-- Two runs that no one can tell apart by their steps, trace and stop: results related, all else the same.
-- Assumes nothing.
use Rattle.std.specs.Prelude.{◌≡◌, refl, Bool, true, false, ℕ, ◌+◌, ltb}
use Rattle.definitions.specs.Choice.{pick}
use Rattle.definitions.specs.Running.{Evaluated, value, stop, Ran, on, halt, bind, within, and_go, tick}

-- two evaluations: related values with one trace, or one stop
pub data Evaluations {T A B : Type 0} (R : A → B → Type 0) : Evaluated T A → Evaluated T B → Type 0 where
  values : {a : A} {b : B} {t : T} → R a b → Evaluations R (value a t) (value b t)
  stops : {n l : ℕ} {t : T} → Evaluations R (stop n l t) (stop n l t)

-- two runs: related results with the same steps and trace, or one stop
pub data Runs {T A B : Type 0} (R : A → B → Type 0) : Ran T A → Ran T B → Type 0 where
  ons : {a : A} {b : B} {z : ℕ} {t : T} → R a b → Runs R (on a z t) (on b z t)
  halts : {n l z : ℕ} {t : T} → Runs R (halt n l z t) (halt n l z t)

-- a weaker relation of the values
pub relaxed : {T A B : Type 0} {R S : A → B → Type 0} {x : Evaluated T A} {y : Evaluated T B}
    → Evaluations R x y → ((a : A) (b : B) → R a b → S a b) → Evaluations S x y
relaxed (values {a} {b} r) k = values (k a b r)
relaxed stops k = stops

-- one evaluation, beside itself
pub itself : {T A : Type 0} (x : Evaluated T A) → Evaluations (λ a b. a ≡ b) x x
itself (value a t) = values refl
itself (stop n l t) = stops

-- what follows keeps two evaluations, or two runs, related
pub on_bind : {T A B C D : Type 0} {R : A → B → Type 0} {S : C → D → Type 0} {x : Evaluated T A} {y : Evaluated T B}
    {f : A → T → Evaluated T C} {g : B → T → Evaluated T D}
    → Evaluations R x y → ((a : A) (b : B) (t : T) → R a b → Evaluations S (f a t) (g b t)) → Evaluations S (bind x f) (bind y g)
on_bind (values {a} {b} {t} r) k = k a b t r
on_bind stops k = stops

pub on_within : {T A B C D : Type 0} {R : A → B → Type 0} {S : C → D → Type 0} {x : Evaluated T A} {y : Evaluated T B}
    {f : A → T → Ran T C} {g : B → T → Ran T D} (z : ℕ)
    → Evaluations R x y → ((a : A) (b : B) (t : T) → R a b → Runs S (f a t) (g b t)) → Runs S (within z x f) (within z y g)
on_within z (values {a} {b} {t} r) k = k a b t r
on_within z stops k = halts

pub on_and_go : {T A B C D : Type 0} {R : A → B → Type 0} {S : C → D → Type 0} {x : Ran T A} {y : Ran T B}
    {f : A → ℕ → T → Ran T C} {g : B → ℕ → T → Ran T D}
    → Runs R x y → ((a : A) (b : B) (z : ℕ) (t : T) → R a b → Runs S (f a z t) (g b z t)) → Runs S (and_go x f) (and_go y g)
on_and_go (ons {a} {b} {z} {t} r) k = k a b z t r
on_and_go halts k = halts

pub on_tick : {T A B : Type 0} {R : A → B → Type 0} (budget l z : ℕ) (t : T) {f : ℕ → T → Ran T A} {g : ℕ → T → Ran T B}
    → ((y : ℕ) (u : T) → Runs R (f y u) (g y u)) → Runs R (tick budget l z t f) (tick budget l z t g)
unfolding tick
on_tick {T} {A} {B} {R} budget l z t {f} {g} k = by_test (ltb z budget)
  where
    by_test : (b : Bool) → Runs R (pick b (f (z + 1)) (halt 21 l z) t) (pick b (g (z + 1)) (halt 21 l z) t)
    by_test true = k (z + 1) t
    by_test false = halts
