-- Document 02, wish 11: no run takes more steps than its procedure costs. By induction over the tree, for any trace and budget. Assumes nothing.
use Rattle.std.specs.Prelude.{◌≡◌, refl, Bool, ◌||◌, ltb, eqb, set}
use Rattle.std.proofs.Math.Bool.{true, false}
use mathlib.Core.List.{List, [], ◌∷◌, ◌++◌}
use Prim.Native.Nat.{ℕ, zero, suc, ◌+◌, ◌*◌, ◌-◌, ◌≤◌}
use native.Mathlib.Omega.{arith}
use Rattle.std.proofs.Common.{eq-eqb}
use Rattle.definitions.specs.Choice.{pick}
use Rattle.definitions.specs.Arithmetic.{truth}
use Rattle.definitions.specs.Image.{Expression, constant, boolean, variable, cell, unary, binary, select}
use Rattle.definitions.specs.Image.{Statement, assign, store, conditional, loop, return, call, Block, done, sequence}
use Rattle.definitions.specs.Image.{Procedure, procedure_at}
use Rattle.definitions.specs.Labels.{is_constant, constant_value}
use Rattle.definitions.specs.Running.{Trace, Evaluated, value, stop, Ran, on, halt, within, and_go, emit, index_at, evaluate, evaluate_all}
use Rattle.definitions.specs.Running.{Outcome, next, back, Given, gave, Callee, Body, tick, after, passes, taken, received}
use Rattle.definitions.specs.Running.{run_statement, run_block, frame, finish, run_procedure}
use Rattle.definitions.specs.StepBounds.{statement_cost, block_cost, statement_calls, block_calls, procedure_cost, reaches}
use Rattle.definitions.specs.StepBounds.{constant_bounds, statement_variable_fors, block_variable_fors, variable_fors_in}
use Rattle.laws.specs.Tests.{false_true, or_left, or_right, and_left, and_right, nil_left, nil_right}
use Rattle.results.specs.SideBySide.{steps_taken}

-- ---- constants

-- a constant is evaluated to its value, and leaves no entry
pub constant_evaluated : {T : Type 0} (tracing : Trace T) (arrays : List ℕ) (e : Expression) → is_constant e ≡ true → (vars cells : List ℕ) (t : T)
    → evaluate tracing arrays e vars cells t ≡ value (constant_value e) t
unfolding is_constant constant_value evaluate
constant_evaluated tracing arrays (constant p v) h vars cells t = refl
constant_evaluated tracing arrays (boolean p v) h vars cells t = false_true h
constant_evaluated tracing arrays (variable p x) h vars cells t = false_true h
constant_evaluated tracing arrays (cell p a i) h vars cells t = false_true h
constant_evaluated tracing arrays (unary p o e) h vars cells t = false_true h
constant_evaluated tracing arrays (binary p o e f) h vars cells t = false_true h
constant_evaluated tracing arrays (select p c e f) h vars cells t = false_true h

-- a for that is not among those with other bounds has constant ones
pub constant_bounds_lem : (place : ℕ) (b : Bool) (rest : List ℕ) → pick b [] (place ∷ []) ++ rest ≡ [] → b ≡ true
constant_bounds_lem place true rest h = refl
constant_bounds_lem place false rest h = cc

-- a pass more
pub one_pass_more : (left c : ℕ) → suc left * (1 + c) ≡ (1 + c) + left * (1 + c)
one_pass_more left c = omega arith

-- ---- a bound on the steps of each way to go on

module _ {T : Type 0} where
  within_steps : {A B : Type 0} (z m : ℕ) (x : Evaluated T A) (f : A → T → Ran T B) → z ≤ m → ((a : A) (t : T) → steps_taken (f a t) ≤ m)
      → steps_taken (within z x f) ≤ m
  within_steps z m (value a t) f h k = k a t
  within_steps z m (stop n l t) f h k = h

  go_steps : {A B : Type 0} (m c : ℕ) (x : Ran T A) (f : A → ℕ → T → Ran T B) → steps_taken x ≤ m
      → ((a : A) (y : ℕ) (t : T) → steps_taken (f a y t) ≤ y + c) → steps_taken (and_go x f) ≤ m + c
  go_steps m c (on a y t) f h k = let q = k a y t in omega arith
  go_steps m c (halt n l y t) f h k = omega arith

  after_steps : (f : Body T) (c : ℕ) → ((z : ℕ) (t : T) (vs cs : List ℕ) → steps_taken (f z t vs cs) ≤ z + c) → (o : Outcome) (y : ℕ) (t : T)
      → steps_taken (after f o y t) ≤ y + c
  after_steps f c k (next vs cs) y t = k y t vs cs
  after_steps f c k (back v cs) y t = omega arith

  tick_steps : {A : Type 0} (budget place z c : ℕ) (t : T) (f : ℕ → T → Ran T A) → ((u : T) → steps_taken (f (z + 1) u) ≤ z + c)
      → steps_taken (tick budget place z t f) ≤ z + c
  unfolding tick
  tick_steps budget place z c t f k = go (ltb z budget)
    where
      go : (b : Bool) → steps_taken (pick b (f (z + 1)) (halt 21 place z) t) ≤ z + c
      go true = k t
      go false = omega arith

  received_steps : (x : ℕ) (vs : List ℕ) (r : Given) (y : ℕ) (t : T) → steps_taken (received x vs r y t) ≤ y + 0
  unfolding received
  received_steps x vs (gave v cs) y t = omega arith

  finish_steps : (o : Outcome) (y : ℕ) (t : T) → steps_taken (finish o y t) ≤ y + 0
  unfolding finish
  finish_steps (next vs cs) y t = omega arith
  finish_steps (back v cs) y t = omega arith

  passes_steps : (budget place x : ℕ) (body : Body T) (c : ℕ) → ((z : ℕ) (t : T) (vs cs : List ℕ) → steps_taken (body z t vs cs) ≤ z + c)
      → (left i z : ℕ) (t : T) (vs cs : List ℕ) → steps_taken (passes budget place x body left i z t vs cs) ≤ z + left * (1 + c)
  unfolding passes
  passes_steps budget place x body c k zero i z t vs cs = omega arith
  passes_steps budget place x body c k (suc left) i z t vs cs =
      rw (one_pass_more left c)
      (tick_steps budget place z ((1 + c) + left * (1 + c)) t _ (λ u.
      let rest : Body T = (λ y w us ds. passes budget place x body left (i + 1) y w us ds) in
      let q = go_steps (z + 1 + c) (left * (1 + c)) (body (z + 1) u (set vs x i) cs) (after rest) (k (z + 1) u (set vs x i) cs)
      (after_steps rest (left * (1 + c)) (λ y w us ds. passes_steps budget place x body c k left (i + 1) y w us ds)) in
      omega arith))

-- ---- No run takes more steps than it costs

-- over a procedure's callees: how each is run, what it costs, and when it is known to keep to that
module _ {T : Type 0} (tracing : Trace T) (budget : ℕ) (arrays : List ℕ) (callee : Callee T) (cost : ℕ → ℕ) (reach : ℕ → ℕ → Bool) (Fine : ℕ → Type 0)
    (called : (f : ℕ) → ((g : ℕ) → reach f g ≡ true → Fine g) → (ws : List ℕ) (z : ℕ) (t : T) (cs : List ℕ)
    → steps_taken (callee f ws z t cs) ≤ z + cost f) where
  -- the arm that is taken
  steps_taken_lem : (a b : Block) (k : Bool) (m z : ℕ) (t : T) (vs cs : List ℕ)
      → steps_taken (run_block tracing budget arrays callee a (z + 1) t vs cs) ≤ m → steps_taken (run_block tracing budget arrays callee b (z + 1) t vs cs) ≤ m
      → steps_taken (pick {A = Body T} k (λ y u us ds. run_block tracing budget arrays callee b y u us ds)
      (λ y u us ds. run_block tracing budget arrays callee a y u us ds) (z + 1) t vs cs) ≤ m
  steps_taken_lem a b true m z t vs cs p q = q
  steps_taken_lem a b false m z t vs cs p q = p

  mutual
    unfolding statement_cost block_cost statement_calls block_calls statement_variable_fors block_variable_fors run_statement run_block taken

    -- a statement whose own step is taken
    steps_statement : (place : ℕ) (s : Statement) → statement_variable_fors place s ≡ [] → ((g : ℕ) → statement_calls (λ f. reach f g) s ≡ true → Fine g)
        → (z : ℕ) (t : T) (vs cs : List ℕ) → steps_taken (run_statement tracing budget arrays callee place s (z + 1) t vs cs) ≤ z + statement_cost cost s
    steps_statement place (assign x e) h fine z t vs cs =
        within_steps (z + 1) (z + 1) (evaluate tracing arrays e vs cs t) _ (omega arith) (λ v u. omega arith)
    steps_statement place (store a i e) h fine z t vs cs =
        within_steps (z + 1) (z + 1) (evaluate tracing arrays i vs cs t) _ (omega arith)
        (λ v u. within_steps (z + 1) (z + 1) (index_at tracing arrays a place v u) _ (omega arith)
        (λ j w. within_steps (z + 1) (z + 1) (evaluate tracing arrays e vs cs w) _ (omega arith) (λ k y. omega arith)))
    steps_statement place (conditional c a b) h fine z t vs cs =
        let m = z + statement_cost cost (conditional c a b) in
        within_steps (z + 1) m (evaluate tracing arrays c vs cs t) _ (omega arith)
        (λ v u. within_steps (z + 1) m (emit tracing 1 place (truth v) u) _ (omega arith)
        (λ d w.
        let p = steps_block a (nil_left (block_variable_fors a) (block_variable_fors b) h)
        (λ g r. fine g (or_left (block_calls (λ f. reach f g) a) (block_calls (λ f. reach f g) b) r)) (z + 1) w vs cs in
        let q = steps_block b (nil_right (block_variable_fors a) (block_variable_fors b) h)
        (λ g r. fine g (or_right (block_calls (λ f. reach f g) a) (block_calls (λ f. reach f g) b) r)) (z + 1) w vs cs in
        steps_taken_lem a b (eqb d 0) m z w vs cs (omega arith) (omega arith)))
    steps_statement place (loop x f g b) h fine z t vs cs =
        let c = constant_bounds_lem place (constant_bounds f g) (block_variable_fors b) h in
        let n = constant_value g - constant_value f in
        let m = z + statement_cost cost (loop x f g b) in
        rw (
          constant_evaluated tracing arrays f (and_left (is_constant f) (is_constant g) c) vs cs t,
          constant_evaluated tracing arrays g (and_right
              (is_constant f) (is_constant g) c) vs cs t,
        )
        (within_steps (z + 1) m (emit tracing 2 place (constant_value f) t) _ (omega arith)
        (λ _ u. within_steps (z + 1) m (emit tracing 3 place (constant_value g) u) _ (omega arith)
        (λ _ w.
        let q = passes_steps budget place x (λ y v us ds. run_block tracing budget arrays callee b y v us ds) (block_cost cost b)
        (λ y v us ds. steps_block b (nil_right (pick (constant_bounds f g) [] (place ∷ [])) (block_variable_fors b) h) fine y v us ds) n
        (constant_value f) (z + 1) w vs cs in
        omega arith)))
    steps_statement place (return e) h fine z t vs cs =
        within_steps (z + 1) (z + 1) (evaluate tracing arrays e vs cs t) _ (omega arith)
        (λ v u. within_steps (z + 1) (z + 1) (emit tracing 8 place 0 u) _ (omega arith) (λ k y. omega arith))
    steps_statement place (call f x es) h fine z t vs cs =
        let m = z + statement_cost cost (call f x es) in
        within_steps (z + 1) m (evaluate_all tracing arrays es vs cs t) _ (omega arith)
        (λ ws u. within_steps (z + 1) m (emit tracing 7 place f u) _ (omega arith)
        (λ k y.
        let q = go_steps (z + 1 + cost f) 0 (callee f ws (z + 1) y cs) (received x vs) (called f fine ws (z + 1) y cs) (received_steps x vs) in
        omega arith))

    steps_block : (b : Block) → block_variable_fors b ≡ [] → ((g : ℕ) → block_calls (λ f. reach f g) b ≡ true → Fine g)
        → (z : ℕ) (t : T) (vs cs : List ℕ) → steps_taken (run_block tracing budget arrays callee b z t vs cs) ≤ z + block_cost cost b
    steps_block done h fine z t vs cs = omega arith
    steps_block (sequence p s b) h fine z t vs cs =
        let m = statement_cost cost s in
        let n = block_cost cost b in
        tick_steps budget p z (m + n) t _ (λ u.
        let q = steps_statement p s (nil_left (statement_variable_fors p s) (block_variable_fors b) h) (λ g r. fine g (or_left (statement_calls (λ f. reach
        f g) s) (block_calls (λ f. reach f g) b) r)) z u vs cs in
        let rest : Body T = (λ y w us ds. run_block tracing budget arrays callee b y w us ds) in
        let k = go_steps (z + m) n (run_statement tracing budget arrays callee p s (z + 1) u vs cs) (after rest) q
        (after_steps rest n (λ y w us ds. steps_block b (nil_right (statement_variable_fors p s) (block_variable_fors b) h) (λ g r. fine g (or_right
        (statement_calls (λ f. reach f g) s) (block_calls (λ f. reach f g) b) r)) y w us ds)) in
        omega arith)

module _ {T : Type 0} (tracing : Trace T) (budget : ℕ) (arrays : List ℕ) (ps : List Procedure) where
  -- procedure f, one of the first n, where it and those that it reaches have constant bounds
  pub steps_procedure : (n f : ℕ) → ((g : ℕ) → reaches ps n f g ≡ true → variable_fors_in ps g ≡ []) → (ws : List ℕ) (z : ℕ) (t : T) (cs : List ℕ)
      → steps_taken (run_procedure tracing budget arrays ps n f ws z t cs) ≤ z + procedure_cost ps n f
  unfolding reaches procedure_cost run_procedure
  steps_procedure zero f fine ws z t cs = omega arith
  steps_procedure (suc n) f fine ws z t cs = go (eqb f n) fine (λ h k vs y u ds. steps_procedure n h k vs y u ds)
    where
      go : (b : Bool)
          → ((g : ℕ) → pick b (eqb g n || block_calls (λ h. reaches ps n h g) (procedure_at ps n).body) (reaches ps n f g) ≡ true → variable_fors_in ps g
          ≡ [])
          → ((h : ℕ) → ((g : ℕ) → reaches ps n h g ≡ true → variable_fors_in ps g ≡ []) → (vs : List ℕ) (y : ℕ) (u : T) (ds : List ℕ)
          → steps_taken (run_procedure tracing budget arrays ps n h vs y u ds) ≤ y + procedure_cost ps n h)
          → steps_taken (pick {A = ℕ → T → Ran T Given} b (λ y u. and_go
          (run_block tracing budget arrays (λ g vs x v ds. run_procedure tracing budget arrays ps n g vs x v ds) (procedure_at ps n).body y u (frame ws)
          cs)
          finish) (λ y u. run_procedure tracing budget arrays ps n f ws y u cs) z t)
          ≤ z + pick b (block_cost (λ g. procedure_cost ps n g) (procedure_at ps n).body) (procedure_cost ps n f)
      go true fine before =
          let c = block_cost (λ g. procedure_cost ps n g) (procedure_at ps n).body in
          let q = steps_block tracing budget arrays (λ g vs x v ds. run_procedure tracing budget arrays ps n g vs x v ds) (λ g. procedure_cost ps n g)
          (λ h g. reaches ps n h g) (λ g. variable_fors_in ps g ≡ []) before (procedure_at ps n).body
          (fine n (or_left (eqb n n) (block_calls (λ h. reaches ps n h n) (procedure_at ps n).body) (eq-eqb n n refl))) (λ g r. fine g (or_right (eqb g
          n) (block_calls (λ h. reaches ps n h g) (procedure_at ps n).body) r)) z t (frame ws) cs in
          let r = go_steps (z + c) 0
          (run_block tracing budget arrays (λ g vs x v ds. run_procedure tracing budget arrays ps n g vs x v ds) (procedure_at ps n).body z t (frame ws)
          cs)
          finish q finish_steps in
          omega arith
      go false fine before = before f fine ws z t cs
