-- Running, once for every claim about one run: what holds of the steps and the trace at the start, is kept by a step and by
-- an entry, and so holds wherever the run goes on; and what each of the four stops is claimed to be, it is. Assumes nothing.
use Rattle.std.specs.Prelude.{◌≡◌, Bool, List, get_or, set}
use Rattle.std.proofs.Math.Path.{refl}
use Rattle.std.proofs.Math.Bool.{true, false}
use Prim.Native.Nat.{ℕ, zero, suc, ◌+◌, ◌-◌, ◌*◌}
use borrow.Author.Tests.{eqb-true}
use Rattle.std.proofs.Math.Dec.{ltb, eqb}
use Rattle.definitions.specs.Choice.{pick}
use Rattle.definitions.specs.Arithmetic.{truth}
use Rattle.definitions.specs.Operators.{divides, shifts, apply_binary}
use Rattle.definitions.specs.Image.{array_length, Expression, Statement, Block, Procedure, procedure_at}
use Rattle.definitions.specs.Running.{Trace, Evaluated, value, stop, Ran, on, halt, bind, within, and_go, emit, in_array}
use Rattle.definitions.specs.Running.{index_at, divided, shifted, operated, evaluate, evaluate_all, Outcome, next, back, Given}
use Rattle.definitions.specs.Running.{gave, Callee, Body, tick, after, passes, taken, received, run_statement, run_block}
use Rattle.definitions.specs.Running.{frame, finish, run_procedure}
use Rattle.laws.specs.Trees.{ExpressionPlaces, at_constant, at_boolean, at_variable, at_cell, at_unary, at_binary}
use Rattle.laws.specs.Trees.{at_select, ExpressionsPlaces, no_expression, and_expression, StatementPlaces, in_assign}
use Rattle.laws.specs.Trees.{in_store, in_conditional, in_loop, in_return, in_call, BlockPlaces, in_done, in_sequence}
use Rattle.laws.specs.Trees.{ProceduresPlaces, body_places_lem}
use Rattle.results.specs.WordsNamed.{WordName, named_array, ExpressionNames, ExpressionsNames, StatementNames, BlockNames}
use Rattle.results.specs.WordsNamed.{ProceduresNames}

-- A claim about runs over the given budget and array words: what holds of the steps and the trace wherever a run goes on, of
-- a stop's number, place, steps and trace, and of the cells. Places are as R says, and what the words there name as N says.
pub record Claim {T : Type 0} (tracing : Trace T) (budget : ℕ) (arrays : List ℕ) (R : ℕ → Type 0) (N : ℕ → WordName → Type 0) : Type 1 where
  pub Going : ℕ → T → Type 0
  pub Stops : ℕ → ℕ → ℕ → T → Type 0
  pub Cells : List ℕ → Type 0
  pub stored : (cells : List ℕ) (i v : ℕ) → Cells cells → Cells (set cells i v)
  pub stepped : (z : ℕ) (t : T) → ltb z budget ≡ true → Going z t → Going (z + 1) t
  pub spent : (l z : ℕ) (t : T) → R l → ltb z budget ≡ false → Going z t → Stops 21 l z t
  pub recorded : (kind l v z : ℕ) (t : T) → R l → tracing.full t ≡ false → Going z t → Going z (tracing.add (kind * 268435456 + l) v t)
  pub filled : (l z : ℕ) (t : T) → R l → tracing.full t ≡ true → Going z t → Stops 22 l z t
  pub beyond : (a l i z : ℕ) (t : T) → R l → N l (named_array a) → ltb i (array_length (get_or arrays a 0)) ≡ false
      → Going z (tracing.add (4 * 268435456 + l) i t) → Stops 23 l z (tracing.add (4 * 268435456 + l) i t)
  pub divisor : (l z : ℕ) (t : T) → R l → Going z (tracing.add (6 * 268435456 + l) 0 t) → Stops 24 l z (tracing.add (6 * 268435456 + l) 0 t)

module _ {T : Type 0} {tracing : Trace T} {budget : ℕ} {arrays : List ℕ} {R : ℕ → Type 0} {N : ℕ → WordName → Type 0}
    (C : Claim tracing budget arrays R N) where
  -- an evaluation in a run that has taken z steps
  data Evaluates {A : Type 0} (z : ℕ) (P : A → T → Type 0) : Evaluated T A → Type 0 where
    evaluates : {a : A} {t : T} → C.Going z t → P a t → Evaluates z P (value a t)
    stops : {k l : ℕ} {t : T} → C.Stops k l z t → Evaluates z P (stop k l t)

  pub data Runs {A : Type 0} (P : A → Type 0) : Ran T A → Type 0 where
    goes : {a : A} {z : ℕ} {t : T} → C.Going z t → P a → Runs P (on a z t)
    halts : {k l z : ℕ} {t : T} → C.Stops k l z t → Runs P (halt k l z t)

  Any : {A : Type 0} → A → T → Type 0
  Any a t = Unit {0}

  then_evaluates : {A B : Type 0} {z : ℕ} {P : A → T → Type 0} {Q : B → T → Type 0} {x : Evaluated T A} {f : A → T → Evaluated T B}
      → Evaluates z P x → ((a : A) (t : T) → C.Going z t → P a t → Evaluates z Q (f a t)) → Evaluates z Q (bind x f)
  then_evaluates (evaluates {a} {t} g p) k = k a t g p
  then_evaluates (stops s) k = stops s

  then_runs : {A B : Type 0} {z : ℕ} {P : A → T → Type 0} {Q : B → Type 0} {x : Evaluated T A} {f : A → T → Ran T B}
      → Evaluates z P x → ((a : A) (t : T) → C.Going z t → P a t → Runs Q (f a t)) → Runs Q (within z x f)
  then_runs (evaluates {a} {t} g p) k = k a t g p
  then_runs (stops s) k = halts s

  then_goes : {A B : Type 0} {P : A → Type 0} {Q : B → Type 0} {x : Ran T A} {f : A → ℕ → T → Ran T B}
      → Runs P x → ((a : A) (z : ℕ) (t : T) → C.Going z t → P a → Runs Q (f a z t)) → Runs Q (and_go x f)
  then_goes (goes {a} {z} {t} g p) k = k a z t g p
  then_goes (halts s) k = halts s

  ticks : {A : Type 0} {P : A → Type 0} (l z : ℕ) (t : T) (f : ℕ → T → Ran T A) → R l → C.Going z t
      → ((y : ℕ) → C.Going y t → Runs P (f y t)) → Runs P (tick budget l z t f)
  unfolding tick
  ticks {P} l z t f r g k = go (ltb z budget) refl
    where
      go : (b : Bool) → ltb z budget ≡ b → Runs P (pick b (f (z + 1)) (halt 21 l z) t)
      go true e = k (z + 1) (C.stepped z t e g)
      go false e = halts (C.spent l z t r e g)

  -- an entry, which is then the last
  emits : (kind l v z : ℕ) (t : T) → R l → C.Going z t
      → Evaluates z (λ w u. (w ≡ v) × (u ≡ tracing.add (kind * 268435456 + l) v t)) (emit tracing kind l v t)
  unfolding emit
  emits kind l v z t r g = go (tracing.full t) refl
    where
      go : (b : Bool) → tracing.full t ≡ b
          → Evaluates z (λ w u. (w ≡ v) × (u ≡ tracing.add (kind * 268435456 + l) v t))
          (pick b (stop 22 l t) (value v (tracing.add (kind * 268435456 + l) v t)))
      go true e = stops (C.filled l z t r e g)
      go false e = evaluates (C.recorded kind l v z t r e g) (refl, refl)

  indexes : (a l i z : ℕ) (t : T) → R l → N l (named_array a) → C.Going z t → Evaluates z Any (index_at tracing arrays a l i t)
  unfolding index_at in_array Any
  indexes a l i z t r n g =
      then_evaluates (emits 4 l i z t r g) (λ j u q p. rw (p.0, p.1) (tested (rw p.1 at q) (ltb i (array_length (get_or arrays a 0))) refl))
    where
      tested : C.Going z (tracing.add (4 * 268435456 + l) i t) → (b : Bool) → ltb i (array_length (get_or arrays a 0)) ≡ b
          → Evaluates z Any (pick b (value i (tracing.add (4 * 268435456 + l) i t)) (stop 23 l (tracing.add (4 * 268435456 + l) i t)))
      tested q true e = evaluates q tt
      tested q false e = stops (C.beyond a l i z t r n e q)

  operates : (l o v w z : ℕ) (t : T) → R l → C.Going z t → Evaluates z Any (operated tracing l o v w t)
  unfolding operated divided shifted Any
  operates l o v w z t r g = go (divides o) (shifts o)
    where
      tested : (u : T) → C.Going z (tracing.add (6 * 268435456 + l) w u) → (b : Bool) → eqb w 0 ≡ b
          → Evaluates z Any
          (pick b (stop 24 l (tracing.add (6 * 268435456 + l) w u)) (value (apply_binary o v w) (tracing.add (6 * 268435456 + l) w u)))
      tested u q true e = let n = eqb-true w 0 e in rw n (stops (C.divisor l z u r (rw n at q)))
      tested u q false e = evaluates q tt

      go : (b c : Bool) → Evaluates z Any (pick b (divided tracing l o v w) (pick c (shifted tracing l o v w) (value (apply_binary o v w))) t)
      go true c =
          then_evaluates (emits 5 l v z t r g) (λ a u q p. then_evaluates (emits 6 l w z u r q) (λ b x s y. rw y.1 (tested u (rw y.1 at s) (eqb w 0) refl)))
      go false true = then_evaluates (emits _ l _ z t r g) (λ a u q p. evaluates q tt)
      go false false = evaluates g tt

  expression_evaluates : {e : Expression} → ExpressionPlaces R e → ExpressionNames N e → (vs cs : List ℕ) (z : ℕ) (t : T) → C.Going z t
      → Evaluates z Any (evaluate tracing arrays e vs cs t)
  unfolding evaluate Any ExpressionNames
  expression_evaluates (at_constant h) n vs cs z t g = evaluates g tt
  expression_evaluates (at_boolean h) n vs cs z t g = evaluates g tt
  expression_evaluates (at_variable h) n vs cs z t g = evaluates g tt
  expression_evaluates (at_cell {p} {a} h r) n vs cs z t g =
      then_evaluates (expression_evaluates r n.1 vs cs z t g) (λ v u q _. then_evaluates (indexes a p v z u h n.0 q) (λ j x s _. evaluates s tt))
  expression_evaluates (at_unary h r) n vs cs z t g = then_evaluates (expression_evaluates r n vs cs z t g) (λ v u q _. evaluates q tt)
  expression_evaluates (at_binary {p} {o} h r s) n vs cs z t g =
      then_evaluates (expression_evaluates r n.1 vs cs z t g)
      (λ v u q _. then_evaluates (expression_evaluates s n.2 vs cs z u q) (λ w x m _. operates p o v w z x h m))
  expression_evaluates (at_select h r s i) n vs cs z t g =
      then_evaluates (expression_evaluates r n.0 vs cs z t g)
      (λ b u q _. then_evaluates (expression_evaluates s n.1 vs cs z u q)
      (λ v x m _. then_evaluates (expression_evaluates i n.2 vs cs z x m) (λ w y o _. evaluates o tt)))

  all_evaluate : {es : List Expression} → ExpressionsPlaces R es → ExpressionsNames N es → (vs cs : List ℕ) (z : ℕ) (t : T) → C.Going z t
      → Evaluates z Any (evaluate_all tracing arrays es vs cs t)
  unfolding evaluate_all Any ExpressionsNames
  all_evaluate no_expression n vs cs z t g = evaluates g tt
  all_evaluate (and_expression r s) n vs cs z t g =
      then_evaluates (expression_evaluates r n.0 vs cs z t g)
      (λ v u q _. then_evaluates (all_evaluate s n.1 vs cs z u q) (λ ws x m _. evaluates m tt))

  -- ---- statements and blocks

  -- the cells of what a statement, a procedure comes to
  abbrev Left : Outcome → Type 0
  Left (next vs cs) = C.Cells cs
  Left (back v cs) = C.Cells cs

  abbrev pub Gives : Given → Type 0
  Gives (gave v cs) = C.Cells cs

  abbrev BodyRuns : Body T → Type 0
  BodyRuns f = (z : ℕ) (t : T) (vs cs : List ℕ) → C.Going z t → C.Cells cs → Runs Left (f z t vs cs)

  abbrev CalleeRuns : Callee T → Type 0
  CalleeRuns K = (f : ℕ) (ws : List ℕ) (z : ℕ) (t : T) (cs : List ℕ) → C.Going z t → C.Cells cs → Runs Gives (K f ws z t cs)

  goes_on : (f : Body T) → BodyRuns f → (o : Outcome) (z : ℕ) (t : T) → C.Going z t → Left o → Runs Left (after f o z t)
  goes_on f k (next vs cs) z t g c = k z t vs cs g c
  goes_on f k (back v cs) z t g c = goes g c

  all_passes : (l x : ℕ) (f : Body T) → R l → BodyRuns f → (n i : ℕ) → BodyRuns (passes budget l x f n i)
  unfolding passes
  all_passes l x f r k zero i z t vs cs g c = goes g c
  all_passes l x f r k (suc n) i z t vs cs g c =
      ticks l z t _ r g
      (λ y q. then_goes (k y t (set vs x i) cs q c) (goes_on _ (λ w v us ds m p. all_passes l x f r k n (i + 1) w v us ds m p)))

  arm : (v : ℕ) (a b : Body T) → BodyRuns a → BodyRuns b → BodyRuns (taken v a b)
  unfolding taken
  arm v a b j k z t vs cs g c = go (eqb v 0)
    where
      go : (d : Bool) → Runs Left (pick d b a z t vs cs)
      go true = k z t vs cs g c
      go false = j z t vs cs g c

  receives : (x : ℕ) (vs : List ℕ) (o : Given) (z : ℕ) (t : T) → C.Going z t → Gives o → Runs Left (received x vs o z t)
  unfolding received
  receives x vs (gave v cs) z t g c = goes g c

  module _ (K : Callee T) (k : CalleeRuns K) where
    mutual
      unfolding run_statement run_block StatementNames BlockNames

      statement_runs : (l : ℕ) {s : Statement} → R l → StatementPlaces R s → StatementNames N l s → BodyRuns (run_statement tracing budget arrays K l s)
      statement_runs l h (in_assign r) n z t vs cs g c = then_runs (expression_evaluates r n vs cs z t g) (λ v u q _. goes q c)
      statement_runs l h (in_store {a} r s) n z t vs cs g c =
          then_runs (expression_evaluates r n.1 vs cs z t g)
          (λ v u q _. then_runs (indexes a l v z u h n.0 q)
          (λ j x m _. then_runs (expression_evaluates s n.2 vs cs z x m) (λ w y o _. goes o (C.stored cs _ w c))))
      statement_runs l h (in_conditional r a b) n z t vs cs g c =
          then_runs (expression_evaluates r n.0 vs cs z t g)
          (λ v u q _. then_runs (emits 1 l (truth v) z u h q)
          (λ d x m _. arm d _ _ (λ y w us ds o p. block_runs a n.1 y w us ds o p) (λ y w us ds o p. block_runs b n.2 y w us ds o p) z x vs cs m c))
      statement_runs l h (in_loop {x} r s b) n z t vs cs g c =
          then_runs (expression_evaluates r n.0 vs cs z t g)
          (λ v u q _. then_runs (expression_evaluates s n.1 vs cs z u q)
          (λ w y m _. then_runs (emits 2 l v z y h m)
          (λ i d k _. then_runs (emits 3 l w z d h k)
          (λ j e o _. all_passes l x _ h (λ y w us ds p c'. block_runs b n.2 y w us ds p c') (w - v) v z e vs cs o c))))
      statement_runs l h (in_return r) n z t vs cs g c =
          then_runs (expression_evaluates r n vs cs z t g) (λ v u q _. then_runs (emits 8 l 0 z u h q) (λ d x m _. goes m c))
      statement_runs l h (in_call {f} {x} r) n z t vs cs g c =
          then_runs (all_evaluate r n vs cs z t g)
          (λ ws u q _. then_runs (emits 7 l f z u h q) (λ d y m _. then_goes (k f ws z y cs m c) (receives x vs)))

      block_runs : {b : Block} → BlockPlaces R b → BlockNames N b → BodyRuns (run_block tracing budget arrays K b)
      block_runs in_done n z t vs cs g c = goes g c
      block_runs (in_sequence {p} h r b) n z t vs cs g c =
          ticks p z t _ h g
          (λ y q. then_goes (statement_runs p h r n.0 y t vs cs q c) (goes_on _ (λ w v us ds m d. block_runs b n.1 w v us ds m d)))

  -- ---- procedures

  finishes : (o : Outcome) (z : ℕ) (t : T) → C.Going z t → Left o → Runs Gives (finish o z t)
  unfolding finish
  finishes (next vs cs) z t g c = goes g c
  finishes (back v cs) z t g c = goes g c

  pub procedure_runs : {ps : List Procedure} → ProceduresPlaces R ps → ProceduresNames N ps → (n : ℕ) → CalleeRuns (run_procedure tracing budget arrays ps n)
  unfolding run_procedure
  procedure_runs r a zero f ws z t cs g c = goes g c
  procedure_runs {ps} r a (suc n) f ws z t cs g c = go (λ h xs p q ds m i. procedure_runs r a n h xs p q ds m i) (eqb f n)
    where
      go : CalleeRuns (run_procedure tracing budget arrays ps n) → (b : Bool)
          → Runs Gives (pick {A = ℕ → T → Ran T Given} b
          (λ y u. and_go
          (run_block tracing budget arrays (λ g ws y u cs. run_procedure tracing budget arrays ps n g ws y u cs) (procedure_at ps n).body
          y u (frame ws) cs)
          finish)
          (λ y u. run_procedure tracing budget arrays ps n f ws y u cs) z t)
      go k true =
          then_goes (block_runs (λ g ws y u cs. run_procedure tracing budget arrays ps n g ws y u cs) k (body_places_lem r n) (a n) z t (frame ws) cs g c) finishes
      go k false = k f ws z t cs g c
