-- Two runs of one tree side by side: the law of which every statement about two runs is an instance. The first is as the definitions run it, the second
-- by operators that are given. What holds of both at the start is kept by a step and by an entry, and so holds wherever both go on. Both come to the same,
-- or the first halts alone, and the second goes on from there. No step is ever taken back and no trace word taken away. Assumes nothing.
use Rattle.std.specs.Prelude.{◌≡◌, Bool, ltb, eqb, get_or, set}
use Rattle.std.proofs.Math.Path.{refl}
use Rattle.std.proofs.Math.Bool.{true, false}
use mathlib.Core.List.{List, [], ◌∷◌}
use Prim.Native.Nat.{ℕ, zero, suc, ◌+◌, ◌-◌, ◌≤◌, ◌<◌}
use native.Mathlib.Omega.{arith}
use Rattle.std.proofs.Common.{ltb-true, ltb-false}
use Rattle.definitions.specs.Choice.{pick}
use Rattle.definitions.specs.Arithmetic.{truth}
use Rattle.definitions.specs.Operators.{divides, shifts, apply_binary, apply_unary}
use Rattle.definitions.specs.Image.{array_length, base_of, Expression, Statement, Block, Procedure, procedure_at}
use Rattle.definitions.specs.Running.{Trace, Evaluated, value, stop, Ran, on, halt, bind, within, and_go, emit, in_array}
use Rattle.definitions.specs.Running.{index_at, divided, shifted, operated, evaluate, evaluate_all, Outcome, next, back, Given}
use Rattle.definitions.specs.Running.{gave, Callee, Body, tick, after, passes, taken, received, run_statement, run_block}
use Rattle.definitions.specs.Running.{frame, finish, run_procedure}
use Rattle.statements.specs.FormerTraces.{Operation, evaluate_by, evaluate_all_by, run_statement_by, run_block_by, run_procedure_by}
use Rattle.laws.specs.Trees.{ExpressionPlaces, at_constant, at_boolean, at_variable, at_cell, at_unary, at_binary}
use Rattle.laws.specs.Trees.{at_select, ExpressionsPlaces, no_expression, and_expression, StatementPlaces, in_assign}
use Rattle.laws.specs.Trees.{in_store, in_conditional, in_loop, in_return, in_call, BlockPlaces, in_done, in_sequence}
use Rattle.laws.specs.Trees.{ProceduresPlaces, body_places_lem}
use Rattle.results.specs.WordsNamed.{WordName, named_operator, ExpressionNames, ExpressionsNames, StatementNames, BlockNames}
use Rattle.results.specs.WordsNamed.{ProceduresNames}

-- the steps that a run has taken, and the trace that it, or an evaluation, has come to
abbrev pub steps_taken : {T A : Type 0} → Ran T A → ℕ
steps_taken (on a z t) = z
steps_taken (halt k l z t) = z

abbrev pub trace_left : {T A : Type 0} → Ran T A → T
trace_left (on a z t) = t
trace_left (halt k l z t) = t

abbrev pub trace_after : {T A : Type 0} → Evaluated T A → T
trace_after (value a t) = t
trace_after (stop k l t) = t

-- What two runs are compared by: what holds of their steps and traces wherever both go on; of a trace that the second comes to from another; and of a stop that the
-- first comes to alone, by its number, place, steps and trace and by the steps and the trace that the second has come to.
pub record Comparison (T U : Type 0) : Type 1 where
  pub Both : ℕ → T → U → Type 0
  pub Later : U → U → Type 0
  pub Alone : ℕ → ℕ → ℕ → T → ℕ → U → Type 0
  pub none_later : (u : U) → Later u u
  pub and_later : {u v w : U} → Later u v → Later v w → Later u w
  pub still_alone : {k l z : ℕ} {t : T} {y y' : ℕ} {u u' : U} → Alone k l z t y u → y ≤ y' → Later u u' → Alone k l z t y' u'

module _ {T U : Type 0} (P : Comparison T U) where
  -- two evaluations in runs that have taken z steps
  pub data SameValue {A : Type 0} (z : ℕ) : Evaluated T A → Evaluated U A → Type 0 where
    both_value : {a : A} {t : T} {u : U} → P.Both z t u → SameValue z (value a t) (value a u)
    both_stop : {k l : ℕ} {t : T} {u : U} → P.Both z t u → SameValue z (stop k l t) (stop k l u)
    first_stop : {k l : ℕ} {t : T} {y : Evaluated U A} → P.Alone k l z t z (trace_after y) → SameValue z (stop k l t) y

  -- with the traces t and u
  pub record BothEvaluate {A : Type 0} (z : ℕ) (t : T) (u : U) (x : Evaluated T A) (y : Evaluated U A) : Type 0 where
    pub same : P.Both z t u → SameValue z x y
    pub later : P.Later u (trace_after y)

  pub data SameRun {A : Type 0} : Ran T A → Ran U A → Type 0 where
    both_on : {a : A} {z : ℕ} {t : T} {u : U} → P.Both z t u → SameRun (on a z t) (on a z u)
    both_halt : {k l z : ℕ} {t : T} {u : U} → P.Both z t u → SameRun (halt k l z t) (halt k l z u)
    first_halt : {k l z : ℕ} {t : T} {y : Ran U A} → P.Alone k l z t (steps_taken y) (trace_left y) → SameRun (halt k l z t) y

  -- two runs from z steps and the traces t and u on
  pub record BothRun {A : Type 0} (z : ℕ) (t : T) (u : U) (x : Ran T A) (y : Ran U A) : Type 0 where
    pub same : P.Both z t u → SameRun x y
    pub steps : z ≤ steps_taken y
    pub later : P.Later u (trace_left y)

-- What a comparison has to keep, for runs over the traces C and D with the budgets b and b', where places are as R says.
pub record Keeps {T U : Type 0} (P : Comparison T U) (C : Trace T) (D : Trace U) (b b' : ℕ) (R : ℕ → Type 0) : Type 0 where
  pub no_less : b ≤ b'
  pub stepped : (z : ℕ) (t : T) (u : U) → ltb z b ≡ true → P.Both z t u → P.Both (z + 1) t u
  pub spent : (l z : ℕ) (t : T) (u : U) → ltb z b ≡ false → ltb z b' ≡ true → P.Both z t u → P.Alone 21 l z t (z + 1) u
  -- entries of the kinds 1 to 8; what an operator records, which may be of kind 9, is asked for apart
  pub emits : (kind l v z : ℕ) (t : T) (u : U) → kind < 9 → R l → BothEvaluate P z t u (emit C kind l v t) (emit D kind l v u)

-- an operator in the two runs, named as N says
abbrev pub Operates : {T U : Type 0} → Comparison T U → Trace T → Operation U → (ℕ → Type 0) → (ℕ → WordName → Type 0) → Type 0
Operates {T} {U} P C operate R N =
    (l o v w z : ℕ) (t : T) (u : U) → R l → N l (named_operator o) → BothEvaluate P z t u (operated C l o v w t) (operate l o v w u)

module _ {T U : Type 0} (P : Comparison T U) where
  -- ---- evaluations

  pub evaluates : {A : Type 0} (a : A) (z : ℕ) (t : T) (u : U) → BothEvaluate P z t u (value a t) (value a u)
  evaluates a z t u = record { same = λ h. both_value h; later = P.none_later u }

  stops : {A : Type 0} (k l z : ℕ) (t : T) (u : U) → BothEvaluate P {A = A} z t u (stop k l t) (stop k l u)
  stops k l z t u = record { same = λ h. both_stop h; later = P.none_later u }

  pub then_evaluates : {A B : Type 0} {z : ℕ} {t : T} {u : U} {x : Evaluated T A} {y : Evaluated U A} {f : A → T → Evaluated T B} {g : A → U → Evaluated U B}
      → BothEvaluate P z t u x y → ((a : A) (s : T) (w : U) → BothEvaluate P z s w (f a s) (g a w)) → BothEvaluate P z t u (bind x f) (bind y g)
  then_evaluates {A} {B} {z} {t} {u} {y = y} {f} {g} e k = record { same = λ h. go (e.same h); later = onward y e.later }
    where
      onward : (y : Evaluated U A) {v : U} → P.Later v (trace_after y) → P.Later v (trace_after (bind y g))
      onward (value a w) m = P.and_later m (k a t w).later
      onward (stop n l w) m = m

      alone : {n l : ℕ} {s : T} (y : Evaluated U A) → P.Alone n l z s z (trace_after y) → P.Alone n l z s z (trace_after (bind y g))
      alone (value a w) q = P.still_alone q (omega arith) (k a t w).later
      alone (stop n l w) q = q

      go : {x : Evaluated T A} {y : Evaluated U A} → SameValue P z x y → SameValue P z (bind x f) (bind y g)
      go (both_value {a} {t} {u} h) = (k a t u).same h
      go (both_stop h) = both_stop h
      go (first_stop {y = y} q) = first_stop (alone y q)

  -- ---- runs

  goes : {A : Type 0} (a : A) (z : ℕ) (t : T) (u : U) → BothRun P z t u (on a z t) (on a z u)
  goes a z t u = record { same = λ h. both_on h; steps = omega arith; later = P.none_later u }

  then_runs : {A B : Type 0} {z : ℕ} {t : T} {u : U} {x : Evaluated T A} {y : Evaluated U A} {f : A → T → Ran T B} {g : A → U → Ran U B}
      → BothEvaluate P z t u x y → ((a : A) (s : T) (w : U) → BothRun P z s w (f a s) (g a w)) → BothRun P z t u (within z x f) (within z y g)
  then_runs {A} {B} {z} {t} {u} {y = y} {f} {g} e k =
      record { same = λ h. go (e.same h); steps = on_steps y; later = onward y e.later }
    where
      on_steps : (y : Evaluated U A) → z ≤ steps_taken (within z y g)
      on_steps (value a w) = (k a t w).steps
      on_steps (stop n l w) = omega arith

      onward : (y : Evaluated U A) {v : U} → P.Later v (trace_after y) → P.Later v (trace_left (within z y g))
      onward (value a w) m = P.and_later m (k a t w).later
      onward (stop n l w) m = m

      alone : {n l : ℕ} {s : T} (y : Evaluated U A) → P.Alone n l z s z (trace_after y)
          → P.Alone n l z s (steps_taken (within z y g)) (trace_left (within z y g))
      alone (value a w) q = P.still_alone q (k a t w).steps (k a t w).later
      alone (stop n l w) q = q

      go : {x : Evaluated T A} {y : Evaluated U A} → SameValue P z x y → SameRun P (within z x f) (within z y g)
      go (both_value {a} {t} {u} h) = (k a t u).same h
      go (both_stop h) = both_halt h
      go (first_stop {y = y} q) = first_halt (alone y q)

  then_goes : {A B : Type 0} {z : ℕ} {t : T} {u : U} {x : Ran T A} {y : Ran U A} {f : A → ℕ → T → Ran T B} {g : A → ℕ → U → Ran U B}
      → BothRun P z t u x y → ((a : A) (i : ℕ) (s : T) (w : U) → BothRun P i s w (f a i s) (g a i w)) → BothRun P z t u (and_go x f) (and_go y g)
  then_goes {A} {B} {z} {t} {u} {y = y} {f} {g} e k =
      record { same = λ h. go (e.same h); steps = on_steps y e.steps; later = onward y e.later }
    where
      on_steps : (y : Ran U A) {i : ℕ} → i ≤ steps_taken y → i ≤ steps_taken (and_go y g)
      on_steps (on a j w) h = let q = (k a j t w).steps in omega arith
      on_steps (halt n l j w) h = h

      onward : (y : Ran U A) {v : U} → P.Later v (trace_left y) → P.Later v (trace_left (and_go y g))
      onward (on a j w) m = P.and_later m (k a j t w).later
      onward (halt n l j w) m = m

      alone : {n l i : ℕ} {s : T} (y : Ran U A) → P.Alone n l i s (steps_taken y) (trace_left y)
          → P.Alone n l i s (steps_taken (and_go y g)) (trace_left (and_go y g))
      alone (on a j w) q = P.still_alone q (k a j t w).steps (k a j t w).later
      alone (halt n l j w) q = q

      go : {x : Ran T A} {y : Ran U A} → SameRun P x y → SameRun P (and_go x f) (and_go y g)
      go (both_on {a} {z} {t} {u} h) = (k a z t u).same h
      go (both_halt h) = both_halt h
      go (first_halt {y = y} q) = first_halt (alone y q)

module _ {T U : Type 0} (P : Comparison T U) {C : Trace T} {D : Trace U} {b b' : ℕ} {R : ℕ → Type 0} (keeps : Keeps P C D b b' R) (arrays : List ℕ) where
  -- ---- entries, and what follows them

  indexes : (a l i z : ℕ) (t : T) (u : U) → R l → BothEvaluate P z t u (index_at C arrays a l i t) (index_at D arrays a l i u)
  unfolding index_at in_array
  indexes a l i z t u r = then_evaluates P (keeps.emits 4 l i z t u (omega arith) r) (λ j s w. tested j s w (ltb j (array_length (get_or arrays a 0))))
    where
      tested : (j : ℕ) (s : T) (w : U) (c : Bool) → BothEvaluate P z s w (pick c (value j s) (stop 23 l s)) (pick c (value j w) (stop 23 l w))
      tested j s w true = evaluates P j z s w
      tested j s w false = stops P 23 l z s w

  pub divided_both : (l o v w z : ℕ) (t : T) (u : U) → R l → BothEvaluate P z t u (divided C l o v w t) (divided D l o v w u)
  unfolding divided
  divided_both l o v w z t u r =
      then_evaluates P (keeps.emits 5 l v z t u (omega arith) r)
      (λ _ s y. then_evaluates P (keeps.emits 6 l w z s y (omega arith) r) (λ _ s' y'. tested s' y' (eqb w 0)))
    where
      tested : (s : T) (y : U) (c : Bool)
          → BothEvaluate P z s y (pick c (stop 24 l s) (value (apply_binary o v w) s)) (pick c (stop 24 l y) (value (apply_binary o v w) y))
      tested s y true = stops P 24 l z s y
      tested s y false = evaluates P (apply_binary o v w) z s y

  -- where both record what today's operators record, entries of any kind
  pub operated_both : ((kind l v z : ℕ) (t : T) (u : U) → R l → BothEvaluate P z t u (emit C kind l v t) (emit D kind l v u))
      → (N : ℕ → WordName → Type 0) → Operates P C (operated D) R N
  unfolding operated shifted
  operated_both entries N l o v w z t u r n = go (divides o) (shifts o)
    where
      go : (c d : Bool) → BothEvaluate P z t u (pick c (divided C l o v w) (pick d (shifted C l o v w) (value (apply_binary o v w))) t)
          (pick c (divided D l o v w) (pick d (shifted D l o v w) (value (apply_binary o v w))) u)
      go true d = divided_both l o v w z t u r
      go false true = then_evaluates P (entries _ l _ z t u r) (λ _ s y. evaluates P _ z s y)
      go false false = evaluates P (apply_binary o v w) z t u

  ticks : {A : Type 0} (l z : ℕ) (t : T) (u : U) (f : ℕ → T → Ran T A) (g : ℕ → U → Ran U A) → BothRun P (z + 1) t u (f (z + 1) t) (g (z + 1) u)
      → BothRun P z t u (tick b l z t f) (tick b' l z u g)
  unfolding tick
  ticks l z t u f g k = go (ltb z b) (ltb z b') refl refl
    where
      enough : z ≤ steps_taken (g (z + 1) u)
      enough = let h = k.steps in omega arith

      go : (c d : Bool) → ltb z b ≡ c → ltb z b' ≡ d → BothRun P z t u (pick c (f (z + 1)) (halt 21 l z) t) (pick d (g (z + 1)) (halt 21 l z) u)
      go true true e e' = record { same = λ h. k.same (keeps.stepped z t u e h); steps = enough; later = k.later }
      go true false e e' = absurd (let h = ltb-true z b e in let i = ltb-false z b' e' in let n = keeps.no_less in omega arith)
      go false true e e' =
          record { same = λ h. first_halt (P.still_alone (keeps.spent l z t u e e' h) k.steps k.later); steps = enough; later = k.later }
      go false false e e' = record { same = λ h. both_halt h; steps = omega arith; later = P.none_later u }

  -- ---- expressions

  module _ (N : ℕ → WordName → Type 0) (operate : Operation U) (operates : Operates P C operate R N) where
    expression_evaluates : {e : Expression} → ExpressionPlaces R e → ExpressionNames N e → (vs cs : List ℕ) (z : ℕ) (t : T) (u : U)
        → BothEvaluate P z t u (evaluate C arrays e vs cs t) (evaluate_by operate D arrays e vs cs u)
    unfolding evaluate evaluate_by ExpressionNames
    expression_evaluates (at_constant {v = v} h) n vs cs z t u = evaluates P v z t u
    expression_evaluates (at_boolean {v = v} h) n vs cs z t u = evaluates P v z t u
    expression_evaluates (at_variable {x = x} h) n vs cs z t u = evaluates P (get_or vs x 0) z t u
    expression_evaluates (at_cell {p} {a} h r) n vs cs z t u =
        then_evaluates P (expression_evaluates r n.1 vs cs z t u)
        (λ v s w. then_evaluates P (indexes a p v z s w h) (λ j s' w'. evaluates P (get_or cs (base_of arrays a + j) 0) z s' w'))
    expression_evaluates (at_unary {o = o} h r) n vs cs z t u =
        then_evaluates P (expression_evaluates r n vs cs z t u) (λ v s w. evaluates P (apply_unary o v) z s w)
    expression_evaluates (at_binary {p} {o} h r r') n vs cs z t u =
        then_evaluates P (expression_evaluates r n.1 vs cs z t u)
        (λ v s w. then_evaluates P (expression_evaluates r' n.2 vs cs z s w) (λ y s' w'. operates p o v y z s' w' h n.0))
    expression_evaluates (at_select h r r' r'') n vs cs z t u =
        then_evaluates P (expression_evaluates r n.0 vs cs z t u)
        (λ d s w. then_evaluates P (expression_evaluates r' n.1 vs cs z s w)
        (λ v s' w'. then_evaluates P (expression_evaluates r'' n.2 vs cs z s' w') (λ y s'' w''. evaluates P (pick (eqb d 0) y v) z s'' w'')))

    all_evaluate : {es : List Expression} → ExpressionsPlaces R es → ExpressionsNames N es → (vs cs : List ℕ) (z : ℕ) (t : T) (u : U)
        → BothEvaluate P z t u (evaluate_all C arrays es vs cs t) (evaluate_all_by operate D arrays es vs cs u)
    unfolding evaluate_all evaluate_all_by ExpressionsNames
    all_evaluate no_expression n vs cs z t u = evaluates P [] z t u
    all_evaluate (and_expression r r') n vs cs z t u =
        then_evaluates P (expression_evaluates r n.0 vs cs z t u)
        (λ v s w. then_evaluates P (all_evaluate r' n.1 vs cs z s w) (λ ws s' w'. evaluates P (v ∷ ws) z s' w'))

    -- ---- statements and blocks

    abbrev BodyRuns : Body T → Body U → Type 0
    BodyRuns f g = (z : ℕ) (t : T) (u : U) (vs cs : List ℕ) → BothRun P z t u (f z t vs cs) (g z u vs cs)

    abbrev pub CalleeRuns : Callee T → Callee U → Type 0
    CalleeRuns K L = (f : ℕ) (ws : List ℕ) (z : ℕ) (t : T) (u : U) (cs : List ℕ) → BothRun P z t u (K f ws z t cs) (L f ws z u cs)

    goes_on : (f : Body T) (g : Body U) → BodyRuns f g → (o : Outcome) (z : ℕ) (t : T) (u : U) → BothRun P z t u (after f o z t) (after g o z u)
    goes_on f g k (next vs cs) z t u = k z t u vs cs
    goes_on f g k (back v cs) z t u = goes P (back v cs) z t u

    all_passes : (l x : ℕ) (f : Body T) (g : Body U) → BodyRuns f g → (n i : ℕ) → BodyRuns (passes b l x f n i) (passes b' l x g n i)
    unfolding passes
    all_passes l x f g k zero i z t u vs cs = goes P (next vs cs) z t u
    all_passes l x f g k (suc n) i z t u vs cs =
        ticks l z t u _ _
        (then_goes P (k (z + 1) t u (set vs x i) cs) (goes_on _ _ (λ y s w us ds. all_passes l x f g k n (i + 1) y s w us ds)))

    arm : (v : ℕ) (f f' : Body T) (g g' : Body U) → BodyRuns f g → BodyRuns f' g' → BodyRuns (taken v f f') (taken v g g')
    unfolding taken
    arm v f f' g g' j k z t u vs cs = go (eqb v 0)
      where
        go : (c : Bool) → BothRun P z t u (pick c f' f z t vs cs) (pick c g' g z u vs cs)
        go true = k z t u vs cs
        go false = j z t u vs cs

    receives : (x : ℕ) (vs : List ℕ) (o : Given) (z : ℕ) (t : T) (u : U) → BothRun P z t u (received x vs o z t) (received x vs o z u)
    unfolding received
    receives x vs (gave v cs) z t u = goes P (next (set vs x v) cs) z t u

    module _ (K : Callee T) (L : Callee U) (k : CalleeRuns K L) where
      mutual
        unfolding run_statement run_block run_statement_by run_block_by StatementNames BlockNames

        statement_runs : (l : ℕ) {s : Statement} → R l → StatementPlaces R s → StatementNames N l s
            → BodyRuns (run_statement C b arrays K l s) (run_statement_by operate D b' arrays L l s)
        statement_runs l h (in_assign {x} r) n z t u vs cs =
            then_runs P (expression_evaluates r n vs cs z t u) (λ v s w. goes P (next (set vs x v) cs) z s w)
        statement_runs l h (in_store {a} r r') n z t u vs cs =
            then_runs P (expression_evaluates r n.1 vs cs z t u)
            (λ v s w. then_runs P (indexes a l v z s w h)
            (λ j s' w'. then_runs P (expression_evaluates r' n.2 vs cs z s' w')
            (λ y s'' w''. goes P (next vs (set cs (base_of arrays a + j) y)) z s'' w'')))
        statement_runs l h (in_conditional r f g) n z t u vs cs =
            then_runs P (expression_evaluates r n.0 vs cs z t u)
            (λ v s w. then_runs P (keeps.emits 1 l (truth v) z s w (omega arith) h)
            (λ d s' w'. arm d _ _ _ _ (λ y i j us ds. block_runs f n.1 y i j us ds) (λ y i j us ds. block_runs g n.2 y i j us ds) z s' w' vs cs))
        statement_runs l h (in_loop {x} r r' c) n z t u vs cs =
            then_runs P (expression_evaluates r n.0 vs cs z t u)
            (λ v s w. then_runs P (expression_evaluates r' n.1 vs cs z s w)
            (λ y s' w'. then_runs P (keeps.emits 2 l v z s' w' (omega arith) h)
            (λ _ i j. then_runs P (keeps.emits 3 l y z i j (omega arith) h)
            (λ _ i' j'. all_passes l x _ _ (λ d p q us ds. block_runs c n.2 d p q us ds) (y - v) v z i' j' vs cs))))
        statement_runs l h (in_return r) n z t u vs cs =
            then_runs P (expression_evaluates r n vs cs z t u)
            (λ v s w. then_runs P (keeps.emits 8 l 0 z s w (omega arith) h) (λ _ s' w'. goes P (back v cs) z s' w'))
        statement_runs l h (in_call {f} {x} r) n z t u vs cs =
            then_runs P (all_evaluate r n vs cs z t u)
            (λ ws s w. then_runs P (keeps.emits 7 l f z s w (omega arith) h) (λ _ s' w'. then_goes P (k f ws z s' w' cs) (receives x vs)))

        block_runs : {c : Block} → BlockPlaces R c → BlockNames N c → BodyRuns (run_block C b arrays K c) (run_block_by operate D b' arrays L c)
        block_runs in_done n z t u vs cs = goes P (next vs cs) z t u
        block_runs (in_sequence {p} h r c) n z t u vs cs =
            ticks p z t u _ _
            (then_goes P (statement_runs p h r n.0 (z + 1) t u vs cs) (goes_on _ _ (λ y s w us ds. block_runs c n.1 y s w us ds)))

    -- ---- procedures

    finishes : (o : Outcome) (z : ℕ) (t : T) (u : U) → BothRun P z t u (finish o z t) (finish o z u)
    unfolding finish
    finishes (next vs cs) z t u = goes P (gave 0 cs) z t u
    finishes (back v cs) z t u = goes P (gave v cs) z t u

    pub procedure_runs : {ps : List Procedure} → ProceduresPlaces R ps → ProceduresNames N ps → (n : ℕ)
        → CalleeRuns (run_procedure C b arrays ps n) (run_procedure_by operate D b' arrays ps n)
    unfolding run_procedure run_procedure_by
    procedure_runs r m zero f ws z t u cs = goes P (gave 0 cs) z t u
    procedure_runs {ps} r m (suc n) f ws z t u cs = go (λ h xs y s w ds. procedure_runs r m n h xs y s w ds) (eqb f n)
      where
        first : Callee T
        first g xs y s ds = run_procedure C b arrays ps n g xs y s ds

        second : Callee U
        second g xs y s ds = run_procedure_by operate D b' arrays ps n g xs y s ds

        go : CalleeRuns first second → (c : Bool)
            → BothRun P z t u
            (pick {A = ℕ → T → Ran T Given} c
            (λ y s. and_go (run_block C b arrays first (procedure_at ps n).body y s (frame ws) cs) finish) (λ y s. first f ws y s cs) z t)
            (pick {A = ℕ → U → Ran U Given} c
            (λ y s. and_go (run_block_by operate D b' arrays second (procedure_at ps n).body y s (frame ws) cs) finish) (λ y s. second f ws y s cs) z u)
        go k true = then_goes P (block_runs first second k (body_places_lem r n) (m n) z t u (frame ws) cs) finishes
        go k false = k f ws z t u cs
