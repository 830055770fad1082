-- What relates two runs, and their laws of sequencing: a run that can stop only for want of steps or trace words (Safe), and two runs that
-- end alike unless one of them stops so (Sim); each for evaluations too. Assumes nothing.
use Rattle.std.specs.Prelude.{◌≡◌, refl, Bool, ℕ, ◌+◌, ◌*◌, ltb}
use Rattle.std.proofs.Math.Bool.{true, false}
use Rattle.definitions.specs.Choice.{pick}
use Rattle.definitions.specs.Running.{Trace, Evaluated, value, stop, Ran, on, halt, bind, within, and_go, emit, tick}

-- the stops that a larger budget or a longer trace would lift
pub data Spent : ℕ → Type 0 where
  budget_spent : Spent 21
  trace_full : Spent 22

-- an evaluation that gives a value with a property, or is spent
pub data SafeValue {T A : Type 0} (P : A → Type 0) : Evaluated T A → Type 0 where
  sound : {a : A} {t : T} → P a → SafeValue P (value a t)
  short : {n l : ℕ} {t : T} → Spent n → SafeValue P (stop n l t)

-- a run that comes to a result with a property, or is spent
pub data Safe {T A : Type 0} (P : A → Type 0) : Ran T A → Type 0 where
  fine : {a : A} {z : ℕ} {t : T} → P a → Safe P (on a z t)
  slow : {n l z : ℕ} {t : T} → Spent n → Safe P (halt n l z t)

-- two evaluations that give related values or the same stop, unless one is spent
pub data SimValue {T U A B : Type 0} (R : A → B → Type 0) : Evaluated T A → Evaluated U B → Type 0 where
  same : {a : A} {b : B} {t : T} {u : U} → R a b → SimValue R (value a t) (value b u)
  left_short : {n l : ℕ} {t : T} {y : Evaluated U B} → Spent n → SimValue R (stop n l t) y
  right_short : {n l : ℕ} {u : U} {x : Evaluated T A} → Spent n → SimValue R x (stop n l u)
  broke : {n l k : ℕ} {t : T} {u : U} → SimValue R (stop n l t) (stop n k u)

-- two runs that come to related results or the same stop, unless one is spent
pub data Sim {T U A B : Type 0} (R : A → B → Type 0) : Ran T A → Ran U B → Type 0 where
  meet : {a : A} {b : B} {z y : ℕ} {t : T} {u : U} → R a b → Sim R (on a z t) (on b y u)
  left : {n l z : ℕ} {t : T} {y : Ran U B} → Spent n → Sim R (halt n l z t) y
  right : {n l z : ℕ} {u : U} {x : Ran T A} → Spent n → Sim R x (halt n l z u)
  fail : {n l k z y : ℕ} {t : T} {u : U} → Sim R (halt n l z t) (halt n k y u)

module _ {T A B : Type 0} {P : A → Type 0} {Q : B → Type 0} where
  pub safe_bind : {x : Evaluated T A} {f : A → T → Evaluated T B} → SafeValue P x → ((a : A) (t : T) → P a → SafeValue Q (f a t)) → SafeValue Q (bind x f)
  safe_bind (sound {a} {t} p) k = k a t p
  safe_bind (short s) k = short s

  pub safe_within : (z : ℕ) {x : Evaluated T A} {f : A → T → Ran T B} → SafeValue P x → ((a : A) (t : T) → P a → Safe Q (f a t)) → Safe Q (within z x f)
  safe_within z (sound {a} {t} p) k = k a t p
  safe_within z (short s) k = slow s

  pub safe_go : {x : Ran T A} {f : A → ℕ → T → Ran T B} → Safe P x → ((a : A) (z : ℕ) (t : T) → P a → Safe Q (f a z t)) → Safe Q (and_go x f)
  safe_go (fine {a} {z} {t} p) k = k a z t p
  safe_go (slow s) k = slow s

module _ {T U A B A' B' : Type 0} {R : A → B → Type 0} {S : A' → B' → Type 0} where
  pub sim_bind : {x : Evaluated T A} {y : Evaluated U B} {f : A → T → Evaluated T A'} {g : B → U → Evaluated U B'}
      → SimValue R x y → ((a : A) (b : B) (t : T) (u : U) → R a b → SimValue S (f a t) (g b u)) → SimValue S (bind x f) (bind y g)
  sim_bind (same {a} {b} {t} {u} r) k = k a b t u r
  sim_bind (left_short s) k = left_short s
  sim_bind (right_short s) k = right_short s
  sim_bind broke k = broke

  pub sim_within : (z z' : ℕ) {x : Evaluated T A} {y : Evaluated U B} {f : A → T → Ran T A'} {g : B → U → Ran U B'}
      → SimValue R x y → ((a : A) (b : B) (t : T) (u : U) → R a b → Sim S (f a t) (g b u)) → Sim S (within z x f) (within z' y g)
  sim_within z z' (same {a} {b} {t} {u} r) k = k a b t u r
  sim_within z z' (left_short s) k = left s
  sim_within z z' (right_short s) k = right s
  sim_within z z' broke k = fail

  pub sim_go : {x : Ran T A} {y : Ran U B} {f : A → ℕ → T → Ran T A'} {g : B → ℕ → U → Ran U B'}
      → Sim R x y → ((a : A) (b : B) (z y : ℕ) (t : T) (u : U) → R a b → Sim S (f a z t) (g b y u)) → Sim S (and_go x f) (and_go y g)
  sim_go (meet {a} {b} {z} {y} {t} {u} r) k = k a b z y t u r
  sim_go (left s) k = left s
  sim_go (right s) k = right s
  sim_go fail k = fail

-- one side evaluates more than the other
module _ {T U A A' B' : Type 0} {P : A → Type 0} {S : A' → B' → Type 0} where
  pub sim_left : (z : ℕ) {x : Evaluated T A} {y : Ran U B'} {f : A → T → Ran T A'}
      → SafeValue P x → ((a : A) (t : T) → P a → Sim S (f a t) y) → Sim S (within z x f) y
  sim_left z (sound {a} {t} p) k = k a t p
  sim_left z (short s) k = left s

  pub sim_right : (z : ℕ) {y : Evaluated U A} {x : Ran T A'} {g : A → U → Ran U B'}
      → SafeValue P y → ((a : A) (u : U) → P a → Sim S x (g a u)) → Sim S x (within z y g)
  sim_right z (sound {a} {t} p) k = k a t p
  sim_right z (short s) k = right s

  pub sim_right_value : {y : Evaluated U A} {x : Evaluated T A'} {g : A → U → Evaluated U B'}
      → SafeValue P y → ((a : A) (u : U) → P a → SimValue S x (g a u)) → SimValue S x (bind y g)
  sim_right_value (sound {a} {t} p) k = k a t p
  sim_right_value (short s) k = right_short s

  -- the compiled run does more before both go on
  pub sim_first : {y : Ran U A} {x : Ran T A'} {g : A → ℕ → U → Ran U B'}
      → Safe P y → ((a : A) (z : ℕ) (u : U) → P a → Sim S x (g a z u)) → Sim S x (and_go y g)
  sim_first (fine {a} {z} {t} p) k = k a z t p
  sim_first (slow s) k = right s

-- the compiled run goes on where the source's has ended
pub sim_more : {T U A B : Type 0} {P : B → Type 0} {S : A → B → Type 0} {y : Ran U B} {a : A} {z : ℕ} {t : T} → Safe P y → ((b : B) → P b → S a b) → Sim S (on a z t) y
sim_more (fine {a = b} p) k = meet (k b p)
sim_more (slow s) k = right s

-- two evaluations that cannot fault
pub both : {T U A B : Type 0} {P : A → Type 0} {Q : B → Type 0} {x : Evaluated T A} {y : Evaluated U B}
    → SafeValue P x → SafeValue Q y → SimValue (λ a b. P a × Q b) x y
both (sound p) (sound q) = same (p, q)
both (sound p) (short s) = right_short s
both (short s) y = left_short s

-- the compiled evaluation goes on and keeps its value
pub sim_through : {T U A B : Type 0} {R : A → B → Type 0} {x : Evaluated T A} {y : Evaluated U B} {g : B → U → Evaluated U B}
    → SimValue R x y → ((b : B) (u : U) → SafeValue (λ c. c ≡ b) (g b u)) → SimValue R x (bind y g)
sim_through {T} {U} {A} {B} {R} (same {a} {b} {t} {u} r) k = go (k b u)
  where
    go : {w : Evaluated U B} → SafeValue (λ c. c ≡ b) w → SimValue R (value a t) w
    go (sound {a = c} e) = same {a = a} {b = c} (rw e r)
    go (short s) = right_short s
sim_through (left_short s) k = left_short s
sim_through (right_short s) k = right_short s
sim_through broke k = broke

-- the compiled run goes on after what ends alike
pub sim_then : {T U A B B' : Type 0} {R : A → B → Type 0} {S : A → B' → Type 0} {x : Ran T A} {y : Ran U B} {g : B → ℕ → U → Ran U B'}
    → Sim R x y → ((a : A) (b : B) (z : ℕ) (t : T) (y : ℕ) (u : U) → R a b → Sim S (on a z t) (g b y u)) → Sim S x (and_go y g)
sim_then (meet {a} {b} {z} {y} {t} {u} r) k = k a b z t y u r
sim_then (left s) k = left s
sim_then (right s) k = right s
sim_then fail k = fail

-- weaker properties and relations
pub safe_map : {T A : Type 0} {P Q : A → Type 0} {x : Ran T A} → ((a : A) → P a → Q a) → Safe P x → Safe Q x
safe_map k (fine {a} p) = fine (k a p)
safe_map k (slow s) = slow s

pub sim_map : {T U A B : Type 0} {R S : A → B → Type 0} {x : Ran T A} {y : Ran U B} → ((a : A) (b : B) → R a b → S a b) → Sim R x y → Sim S x y
sim_map k (meet {a} {b} r) = meet (k a b r)
sim_map k (left s) = left s
sim_map k (right s) = right s
sim_map k fail = fail

-- a step taken, a trace entry: each is spent or goes on
pub emitted : {T : Type 0} (C : Trace T) (kind l v : ℕ) (t : T) → SafeValue (λ w. w ≡ v) (emit C kind l v t)
unfolding emit
emitted C kind l v t = go (C.full t)
  where
    go : (b : Bool) → SafeValue (λ w. w ≡ v) (pick b (stop 22 l t) (value v (C.add (kind * 268435456 + l) v t)))
    go true = short trace_full
    go false = sound refl

pub safe_tick : {T A : Type 0} {P : A → Type 0} (budget l z : ℕ) (t : T) (f : ℕ → T → Ran T A)
    → ((y : ℕ) → Safe P (f y t)) → Safe P (tick budget l z t f)
unfolding tick
safe_tick {T} {A} {P} budget l z t f k = go (ltb z budget)
  where
    go : (b : Bool) → Safe P (pick b (f (z + 1)) (halt 21 l z) t)
    go true = k (z + 1)
    go false = slow budget_spent

module _ {T U A B : Type 0} {S : A → B → Type 0} where
  pub tick_left : (budget l z : ℕ) (t : T) (f : ℕ → T → Ran T A) (y : Ran U B) → ((w : ℕ) → Sim S (f w t) y) → Sim S (tick budget l z t f) y
  unfolding tick
  tick_left budget l z t f y k = go (ltb z budget)
    where
      go : (b : Bool) → Sim S (pick b (f (z + 1)) (halt 21 l z) t) y
      go true = k (z + 1)
      go false = left budget_spent

  pub tick_right : (budget l z : ℕ) (u : U) (g : ℕ → U → Ran U B) (x : Ran T A) → ((w : ℕ) → Sim S x (g w u)) → Sim S x (tick budget l z u g)
  unfolding tick
  tick_right budget l z u g x k = go (ltb z budget)
    where
      go : (b : Bool) → Sim S x (pick b (g (z + 1)) (halt 21 l z) u)
      go true = k (z + 1)
      go false = right budget_spent

pub sim_value_map : {T U A B : Type 0} {R S : A → B → Type 0} {x : Evaluated T A} {y : Evaluated U B} → ((a : A) (b : B) → R a b → S a b) → SimValue R x y → SimValue S x y
sim_value_map k (same {a} {b} r) = same (k a b r)
sim_value_map k (left_short s) = left_short s
sim_value_map k (right_short s) = right_short s
sim_value_map k broke = broke

-- the compiled evaluation makes another value of it
pub sim_value_then : {T U A B B' : Type 0} {R : A → B → Type 0} {S : A → B' → Type 0} {x : Evaluated T A} {y : Evaluated U B} (g : B → B')
    → SimValue R x y → ((a : A) (b : B) → R a b → S a (g b)) → SimValue S x (bind y (λ b u. value (g b) u))
sim_value_then g (same {a} {b} r) k = same (k a b r)
sim_value_then g (left_short s) k = left_short s
sim_value_then g (right_short s) k = right_short s
sim_value_then g broke k = broke
