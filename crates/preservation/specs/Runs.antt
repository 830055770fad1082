-- Laws of running a block: the blocks of two that follow each other, and single statements. Assumes nothing.
use Rattle.std.specs.Prelude.{◌≡◌, Bool, ℕ, zero, suc, ◌+◌, ◌-◌, ◌≤◌, ◌<◌, ltb, eqb, set}
use Rattle.std.proofs.Math.Path.{refl}
use Rattle.std.proofs.Math.Bool.{true, false}
use mathlib.Core.List.{List}
use Rattle.std.proofs.Common.{arith}
use Rattle.definitions.specs.Choice.{pick}
use Rattle.definitions.specs.Arithmetic.{truth}
use Rattle.definitions.specs.Image.{Expression, Statement, assign, conditional, loop, Block, done, sequence}
use Rattle.definitions.specs.Compiling.{followed_by, one}
use Rattle.definitions.specs.Running.{Trace, Evaluated, value, Ran, on, halt, within, and_go, after, tick, Outcome, next}
use Rattle.definitions.specs.Running.{back, Body, Callee, emit, evaluate, passes, taken, run_statement, run_block}
use Rattle.preservation.specs.Relations.{SafeValue, sound, short, Safe, fine, SimValue, same, left_short}
use Rattle.preservation.specs.Relations.{right_short, broke, Sim, left, right, fail, safe_tick, safe_go}
use Rattle.preservation.specs.Relations.{safe_within, tick_right, emitted}

-- the outcome is to go on, with variables of a property and the given cells
pub data Next (P : List ℕ → Type 0) (cs : List ℕ) : Outcome → Type 0 where
  onward : {vs : List ℕ} → P vs → Next P cs (next vs cs)

-- what follows twice
after_after : {T : Type 0} (f g h : Body T) → ((w : ℕ) (v : T) (us ds : List ℕ) → h w v us ds ≡ and_go (f w v us ds) (after g))
    → (r : Ran T Outcome) → and_go r (after h) ≡ and_go (and_go r (after f)) (after g)
after_after f g h e (on (next us ds) w v) = e w v us ds
after_after f g h e (on (back x ds) w v) = refl
after_after f g h e (halt n l z t) = refl

module _ {T : Type 0} (C : Trace T) (budget : ℕ) (arrays : List ℕ) (K : Callee T) where
  abbrev pub run : Block → Body T
  run b = λ z t vs cs. run_block C budget arrays K b z t vs cs

  pub run_followed : (a b : Block) (z : ℕ) (t : T) (vs cs : List ℕ)
      → run_block C budget arrays K (followed_by a b) z t vs cs ≡ and_go (run_block C budget arrays K a z t vs cs) (after (λ w v us ds. run_block C budget arrays K b w v us ds))
  unfolding followed_by run_block tick
  run_followed done b z t vs cs = refl
  run_followed (sequence l s a) b z t vs cs = go (λ w v us ds. run_followed a b w v us ds) (ltb z budget)
    where
      go : ((w : ℕ) (v : T) (us ds : List ℕ) → run_block C budget arrays K (followed_by a b) w v us ds ≡ and_go (run_block C budget arrays K a w v us ds) (after (λ w v us ds. run_block C budget arrays K b w v us ds)))
          → (c : Bool)
          → pick {A = T → Ran T Outcome} c (λ u. and_go (run_statement C budget arrays K l s (z + 1) u vs cs) (after (λ w v us ds. run_block C budget arrays K (followed_by a b) w v us ds))) (halt 21 l z) t
          ≡ and_go (pick {A = T → Ran T Outcome} c (λ u. and_go (run_statement C budget arrays K l s (z + 1) u vs cs) (after (λ w v us ds. run_block C budget arrays K a w v us ds))) (halt 21 l z) t) (after (λ w v us ds. run_block C budget arrays K b w v us ds))
      go ih true = after_after (λ w v us ds. run_block C budget arrays K a w v us ds) (λ w v us ds. run_block C budget arrays K b w v us ds) (λ w v us ds. run_block C budget arrays K (followed_by a b) w v us ds) ih (run_statement C budget arrays K l s (z + 1) t vs cs)
      go ih false = refl

  -- nothing follows
  pub after_nothing : (r : Ran T Outcome) → and_go r (after (λ w v us ds. run_block C budget arrays K done w v us ds)) ≡ r
  unfolding run_block
  after_nothing (on (next us ds) w v) = refl
  after_nothing (on (back x ds) w v) = refl
  after_nothing (halt n l z t) = refl

  pub run_step : (l : ℕ) (s : Statement) (b : Block) (z : ℕ) (t : T) (vs cs : List ℕ)
      → run_block C budget arrays K (sequence l s b) z t vs cs
      ≡ tick budget l z t (λ y u. and_go (run_statement C budget arrays K l s y u vs cs) (after (λ w v us ds. run_block C budget arrays K b w v us ds)))
  unfolding run_block
  run_step l s b z t vs cs = refl

  pub run_conditional : (l : ℕ) (c : Expression) (a b : Block) (z : ℕ) (t : T) (vs cs : List ℕ)
      → run_statement C budget arrays K l (conditional c a b) z t vs cs
      ≡ within z (evaluate C arrays c vs cs t) (λ v u. within z (emit C 1 l (truth v) u)
      (λ d x. taken d (λ y w us ds. run_block C budget arrays K a y w us ds) (λ y w us ds. run_block C budget arrays K b y w us ds) z x vs cs))
  unfolding run_statement
  run_conditional l c a b z t vs cs = refl

  pub safe_one : {P : Outcome → Type 0} (s : Statement) (z : ℕ) (t : T) (vs cs : List ℕ)
      → ((y : ℕ) → Safe P (run_statement C budget arrays K 0 s y t vs cs)) → Safe P (run_block C budget arrays K (one s) z t vs cs)
  unfolding run_block
  safe_one s z t vs cs k = safe_tick budget 0 z t _ λ y. rw (after_nothing (run_statement C budget arrays K 0 s y t vs cs)) (k y)

  pub safe_step : {P : List ℕ → Type 0} {Q : Outcome → Type 0} (s : Statement) (b : Block) (z : ℕ) (t : T) (vs cs ds : List ℕ)
      → ((y : ℕ) → Safe (Next P ds) (run_statement C budget arrays K 0 s y t vs cs))
      → ((y : ℕ) (u : T) (us : List ℕ) → P us → Safe Q (run_block C budget arrays K b y u us ds)) → Safe Q (run_block C budget arrays K (sequence 0 s b) z t vs cs)
  unfolding run_block
  safe_step {P} {Q} s b z t vs cs ds k j = safe_tick budget 0 z t _ λ y. safe_go (k y) λ o w u p. go o w u p
    where
      go : (o : Outcome) (w : ℕ) (u : T) → Next P ds o → Safe Q (after (λ w v us ds. run_block C budget arrays K b w v us ds) o w u)
      go (next us _) w u (onward p) = j w u us p
      go (back _ _) w u h = elim h [ ]

  pub safe_followed : {P : List ℕ → Type 0} {Q : Outcome → Type 0} (a b : Block) (z : ℕ) (t : T) (vs cs ds : List ℕ)
      → Safe (Next P ds) (run_block C budget arrays K a z t vs cs)
      → ((y : ℕ) (u : T) (us : List ℕ) → P us → Safe Q (run_block C budget arrays K b y u us ds)) → Safe Q (run_block C budget arrays K (followed_by a b) z t vs cs)
  safe_followed {P} {Q} a b z t vs cs ds k j = rw (run_followed a b z t vs cs) (safe_go k λ o w u p. go o w u p)
    where
      go : (o : Outcome) (w : ℕ) (u : T) → Next P ds o → Safe Q (after (λ w v us ds. run_block C budget arrays K b w v us ds) o w u)
      go (next us _) w u (onward p) = j w u us p
      go (back _ _) w u h = elim h [ ]

  pub safe_assign : {R : ℕ → Type 0} {P : List ℕ → Type 0} (x : ℕ) (e : Expression) (z : ℕ) (t : T) (vs cs : List ℕ)
      → SafeValue R (evaluate C arrays e vs cs t) → ((v : ℕ) → R v → P (set vs x v)) → Safe (Next P cs) (run_statement C budget arrays K 0 (assign x e) z t vs cs)
  unfolding run_statement
  safe_assign x e z t vs cs h k = safe_within z h λ v u r. fine (onward (k v r))

  pub safe_conditional : {P : Outcome → Type 0} (c : Expression) (a b : Block) (z : ℕ) (t : T) (vs cs : List ℕ) → SafeValue (λ (_ : ℕ). Unit {0}) (evaluate C arrays c vs cs t)
      → ((y : ℕ) (u : T) → Safe P (run_block C budget arrays K a y u vs cs)) → ((y : ℕ) (u : T) → Safe P (run_block C budget arrays K b y u vs cs))
      → Safe P (run_statement C budget arrays K 0 (conditional c a b) z t vs cs)
  unfolding run_statement taken
  safe_conditional {P} c a b z t vs cs h p q = safe_within z h λ v u _. safe_within z (emitted C 1 0 (truth v) u) λ d x _. go (eqb d 0) x
    where
      go : (e : Bool) (x : T) → Safe P (pick {A = Body T} e (λ y w us ds. run_block C budget arrays K b y w us ds) (λ y w us ds. run_block C budget arrays K a y w us ds) z x vs cs)
      go true x = q z x
      go false x = p z x

  pub safe_loop : {P : Outcome → Type 0} (x : ℕ) (f g : Expression) (b : Block) (v w z : ℕ) (t : T) (vs cs : List ℕ)
      → ((u : T) → evaluate C arrays f vs cs u ≡ value v u) → ((u : T) → evaluate C arrays g vs cs u ≡ value w u)
      → ((y : ℕ) (u : T) → Safe P (passes budget 0 x (λ n p us ds. run_block C budget arrays K b n p us ds) (w - v) v y u vs cs))
      → Safe P (run_statement C budget arrays K 0 (loop x f g b) z t vs cs)
  unfolding run_statement
  safe_loop x f g b v w z t vs cs p q k = rw (p t, q t) (safe_within z (emitted C 2 0 v t) λ i u _. safe_within z (emitted C 3 0 w u) λ j y _. k z y)

-- passes that each keep a property of the variables
pub safe_passes : {T : Type 0} {P : List ℕ → Type 0} (budget l x : ℕ) (body : Body T) (from to : ℕ) (cs : List ℕ)
    → ((i : ℕ) → from ≤ i → i < to → (z : ℕ) (t : T) (vs : List ℕ) → P vs → Safe (Next P cs) (body z t (set vs x i) cs))
    → (n i : ℕ) → from ≤ i → n ≡ to - i → (z : ℕ) (t : T) (vs : List ℕ) → P vs → Safe (Next P cs) (passes budget l x body n i z t vs cs)
unfolding passes
safe_passes budget l x body from to cs k zero i a e z t vs p = fine (onward p)
safe_passes {T} {P} budget l x body from to cs k (suc n) i a e z t vs p =
    safe_tick budget l z t _ λ y. safe_go (k i a (omega arith) y t vs p)
    λ o w u q. go (λ w v us h. safe_passes budget l x body from to cs k n (i + 1) (omega arith) (omega arith) w v us h) o w u q
  where
    go : ((w : ℕ) (v : T) (us : List ℕ) → P us → Safe (Next P cs) (passes budget l x body n (i + 1) w v us cs))
        → (o : Outcome) (w : ℕ) (u : T) → Next P cs o → Safe (Next P cs) (after (λ w v us ds. passes budget l x body n (i + 1) w v us ds) o w u)
    go ih (next us _) w u (onward q) = ih w u us q
    go ih (back _ _) w u h = elim h [ ]

-- the compiled run's next statement, beside a source's run
module _ {T U : Type 0} (D : Trace U) (budget : ℕ) (arrays : List ℕ) (K : Callee U) where
  pub sim_one : {A : Type 0} {R : A → Outcome → Type 0} (x : Ran T A) (s : Statement) (z : ℕ) (u : U) (vs cs : List ℕ)
      → ((y : ℕ) → Sim R x (run_statement D budget arrays K 0 s y u vs cs)) → Sim R x (run_block D budget arrays K (one s) z u vs cs)
  unfolding run_block
  sim_one x s z u vs cs k = tick_right budget 0 z u _ x λ y. rw (after_nothing D budget arrays K (run_statement D budget arrays K 0 s y u vs cs)) (k y)

  -- an assignment whose value the source evaluates too
  pub sim_assign : {A B : Type 0} {R : A → ℕ → Type 0} {S : B → Outcome → Type 0} (x : Evaluated T A) (f : A → T → Ran T B) (n k : ℕ) (e : Expression) (b : Block) (z : ℕ) (u : U) (vs cs : List ℕ)
      → SimValue R x (evaluate D arrays e vs cs u) → ((a : A) (v : ℕ) (t : T) (y : ℕ) (w : U) → R a v → Sim S (f a t) (run_block D budget arrays K b y w (set vs k v) cs))
      → Sim S (within n x f) (run_block D budget arrays K (sequence 0 (assign k e) b) z u vs cs)
  unfolding run_block run_statement
  sim_assign {A} {B} {R} {S} x f n k e b z u vs cs h j = tick_right budget 0 z u _ (within n x f) λ y. go y h
    where
      go : (y : ℕ) {x : Evaluated T A} {v : Evaluated U ℕ} → SimValue R x v
          → Sim S (within n x f) (and_go (within y v (λ v u. on (next (set vs k v) cs) y u)) (after (λ w v us ds. run_block D budget arrays K b w v us ds)))
      go y (same {a} {b = v} {t} {u = w} r) = j a v t y w r
      go y (left_short s) = left s
      go y (right_short s) = right s
      go y broke = fail

  -- an assignment of the compiled run alone
  pub sim_assign_right : {A : Type 0} {P : ℕ → Type 0} {S : A → Outcome → Type 0} (x : Ran T A) (k : ℕ) (e : Expression) (b : Block) (z : ℕ) (u : U) (vs cs : List ℕ)
      → SafeValue P (evaluate D arrays e vs cs u) → ((v y : ℕ) (w : U) → P v → Sim S x (run_block D budget arrays K b y w (set vs k v) cs))
      → Sim S x (run_block D budget arrays K (sequence 0 (assign k e) b) z u vs cs)
  unfolding run_block run_statement
  sim_assign_right {A} {P} {S} x k e b z u vs cs h j = tick_right budget 0 z u _ x λ y. go y h
    where
      go : (y : ℕ) {v : Evaluated U ℕ} → SafeValue P v → Sim S x (and_go (within y v (λ v u. on (next (set vs k v) cs) y u)) (after (λ w v us ds. run_block D budget arrays K b w v us ds)))
      go y (sound {a = v} {t = w} p) = j v y w p
      go y (short s) = right s
