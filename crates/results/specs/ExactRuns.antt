-- Document 02, wish 11: where neither a procedure nor any that it calls has an if, or a return other than as its body's last statement, a run that ends
-- takes exactly the steps that it costs. By induction over the tree, for any trace and budget. Assumes nothing.
use Rattle.std.specs.Prelude.{◌≡◌, Bool, ◌||◌, ltb, eqb, set}
use Rattle.std.proofs.Math.Path.{refl}
use Rattle.std.proofs.Common.{◌∙◌, arith, eq-eqb}
use Rattle.std.proofs.Math.Bool.{true, false}
use mathlib.Core.List.{List, [], ◌∷◌}
use Prim.Native.Nat.{ℕ, zero, suc, ◌+◌, ◌*◌, ◌-◌}
use Rattle.definitions.specs.Choice.{pick}
use Rattle.definitions.specs.Image.{Statement, assign, store, conditional, loop, return, call, Block, done, sequence}
use Rattle.definitions.specs.Image.{Procedure, procedure_at}
use Rattle.definitions.specs.Labels.{is_constant, constant_value}
use Rattle.definitions.specs.Running.{Trace, Evaluated, value, stop, Ran, on, halt, within, and_go, emit, index_at, evaluate, evaluate_all}
use Rattle.definitions.specs.Running.{Outcome, next, back, Given, gave, Callee, Body, tick, after, passes, received}
use Rattle.definitions.specs.Running.{run_statement, run_block, frame, finish, run_procedure}
use Rattle.definitions.specs.StepBounds.{statement_cost, block_cost, statement_calls, block_calls, procedure_cost, reaches}
use Rattle.definitions.specs.StepBounds.{constant_bounds, statement_variable_fors, block_variable_fors, variable_fors_in, plain_statement, plain_block}
use Rattle.definitions.specs.StepBounds.{is_return, straight_body}
use Rattle.laws.specs.Tests.{false_true, or_left, or_right, and_left, and_right, nil_left, nil_right}
use Rattle.results.specs.BoundedRuns.{constant_evaluated, constant_bounds_lem, one_pass_more}

module _ {T : Type 0} where
  -- a run from z steps on that, if it does not halt, has taken c more
  pub data Takes {A : Type 0} (z c : ℕ) : Ran T A → Type 0 where
    ends : {a : A} {y : ℕ} {t : T} → y ≡ z + c → Takes z c (on a y t)
    halts : {k l y : ℕ} {t : T} → Takes z c (halt k l y t)

  -- and that goes on to the next statement
  data Proceeds (z c : ℕ) : Ran T Outcome → Type 0 where
    proceeds : {vs cs : List ℕ} {y : ℕ} {t : T} → y ≡ z + c → Proceeds z c (on (next vs cs) y t)
    stopped : {k l y : ℕ} {t : T} → Proceeds z c (halt k l y t)

  -- by the same steps, added otherwise
  takes_from : {A : Type 0} (z c y d : ℕ) {x : Ran T A} → z + c ≡ y + d → Takes z c x → Takes y d x
  takes_from z c y d e (ends h) = ends (h ∙ e)
  takes_from z c y d e halts = halts

  proceeds_from : (z c y d : ℕ) {x : Ran T Outcome} → z + c ≡ y + d → Proceeds z c x → Proceeds y d x
  proceeds_from z c y d e (proceeds h) = proceeds (h ∙ e)
  proceeds_from z c y d e stopped = stopped

  within_proceeds : {A : Type 0} {z c : ℕ} (y : ℕ) (x : Evaluated T A) (f : A → T → Ran T Outcome) → ((a : A) (t : T) → Proceeds z c (f a t))
      → Proceeds z c (within y x f)
  within_proceeds y (value a t) f k = k a t
  within_proceeds y (stop n l t) f k = stopped

  -- on from a statement that goes on
  then_takes : {z c d : ℕ} {x : Ran T Outcome} (f : Body T) → Proceeds z c x → ((y : ℕ) (t : T) (vs cs : List ℕ) → Takes y d (f y t vs cs))
      → Takes z (c + d) (and_go x (after f))
  then_takes {z} {c} {d} f (proceeds {vs} {cs} {y} {t} h) k = takes_from y d z (c + d) (omega arith) (k y t vs cs)
  then_takes f stopped k = halts

  then_proceeds : {z c d : ℕ} {x : Ran T Outcome} (f : Body T) → Proceeds z c x → ((y : ℕ) (t : T) (vs cs : List ℕ) → Proceeds y d (f y t vs cs))
      → Proceeds z (c + d) (and_go x (after f))
  then_proceeds {z} {c} {d} f (proceeds {vs} {cs} {y} {t} h) k = proceeds_from y d z (c + d) (omega arith) (k y t vs cs)
  then_proceeds f stopped k = stopped

  tick_takes : {A : Type 0} {z c : ℕ} (budget place : ℕ) (t : T) (f : ℕ → T → Ran T A) → ((u : T) → Takes z c (f (z + 1) u))
      → Takes z c (tick budget place z t f)
  unfolding tick
  tick_takes {z = z} {c} budget place t f k = go (ltb z budget)
    where
      go : (b : Bool) → Takes z c (pick b (f (z + 1)) (halt 21 place z) t)
      go true = k t
      go false = halts

  tick_proceeds : {z c : ℕ} (budget place : ℕ) (t : T) (f : ℕ → T → Ran T Outcome) → ((u : T) → Proceeds z c (f (z + 1) u))
      → Proceeds z c (tick budget place z t f)
  unfolding tick
  tick_proceeds {z} {c} budget place t f k = go (ltb z budget)
    where
      go : (b : Bool) → Proceeds z c (pick b (f (z + 1)) (halt 21 place z) t)
      go true = k t
      go false = stopped

  passes_proceed : (budget place x : ℕ) (body : Body T) (c : ℕ) → ((z : ℕ) (t : T) (vs cs : List ℕ) → Proceeds z c (body z t vs cs))
      → (left i z : ℕ) (t : T) (vs cs : List ℕ) → Proceeds z (left * (1 + c)) (passes budget place x body left i z t vs cs)
  unfolding passes
  passes_proceed budget place x body c k zero i z t vs cs = proceeds {y = z} (omega arith)
  passes_proceed budget place x body c k (suc left) i z t vs cs =
      rw (one_pass_more left c)
      (tick_proceeds budget place t _ (λ u.
      then_proceeds (λ y w us ds. passes budget place x body left (i + 1) y w us ds)
      (proceeds_from (z + 1) c z (1 + c) (omega arith) (k (z + 1) u (set vs x i) cs))
      (λ y w us ds. passes_proceed budget place x body c k left (i + 1) y w us ds)))

  received_proceeds : (x : ℕ) (vs : List ℕ) {z c : ℕ} {r : Ran T Given} → Takes z c r → Proceeds z c (and_go r (received x vs))
  unfolding received
  received_proceeds x vs (ends {a = gave v cs} h) = proceeds h
  received_proceeds x vs halts = stopped

  finish_takes : {z c : ℕ} {r : Ran T Outcome} → Takes z c r → Takes z c (and_go r finish)
  unfolding finish
  finish_takes (ends {a = next vs cs} h) = ends h
  finish_takes (ends {a = back v cs} h) = ends h
  finish_takes halts = halts

-- over a procedure's callees: how each is run, what it costs, and when it is known to take exactly that
module _ {T : Type 0} (tracing : Trace T) (budget : ℕ) (arrays : List ℕ) (callee : Callee T) (cost : ℕ → ℕ) (reach : ℕ → ℕ → Bool) (Fine : ℕ → Type 0)
    (called : (f : ℕ) → ((g : ℕ) → reach f g ≡ true → Fine g) → (ws : List ℕ) (z : ℕ) (t : T) (cs : List ℕ) → Takes z (cost f) (callee f ws z t cs))
  where
    mutual
      unfolding plain_statement plain_block statement_cost block_cost statement_calls block_calls statement_variable_fors block_variable_fors run_statement run_block

      -- a statement whose own step is taken
      exact_statement : (place : ℕ) (s : Statement) → plain_statement s ≡ true → statement_variable_fors place s ≡ []
          → ((g : ℕ) → statement_calls (λ f. reach f g) s ≡ true → Fine g)
          → (z : ℕ) (t : T) (vs cs : List ℕ) → Proceeds z (statement_cost cost s) (run_statement tracing budget arrays callee place s (z + 1) t vs cs)
      exact_statement place (assign x e) plain h fine z t vs cs = within_proceeds (z + 1) (evaluate tracing arrays e vs cs t) _ (λ v u. proceeds refl)
      exact_statement place (store a i e) plain h fine z t vs cs =
          within_proceeds (z + 1) (evaluate tracing arrays i vs cs t) _
          (λ v u. within_proceeds (z + 1) (index_at tracing arrays a place v u) _
          (λ j w. within_proceeds (z + 1) (evaluate tracing arrays e vs cs w) _ (λ k y. proceeds refl)))
      exact_statement place (conditional c a b) plain h fine z t vs cs = false_true plain
      exact_statement place (loop x f g b) plain h fine z t vs cs =
          let c = constant_bounds_lem place (constant_bounds f g) (block_variable_fors b) h in
          let n = constant_value g - constant_value f in
          let m = block_cost cost b in
          rw (
            constant_evaluated tracing arrays f (and_left (is_constant f) (is_constant g) c) vs cs t,
            constant_evaluated tracing arrays g (and_right
                (is_constant f) (is_constant g) c) vs cs t,
          )
          (within_proceeds (z + 1) (emit tracing 2 place (constant_value f) t) _
          (λ _ u. within_proceeds (z + 1) (emit tracing 3 place (constant_value g) u) _
          (λ _ w. proceeds_from (z + 1) (n * (1 + m)) z (1 + n * (1 + m)) (omega arith)
          (passes_proceed budget place x (λ y v us ds. run_block tracing budget arrays callee b y v us ds) m
          (λ y v us ds. exact_block b plain (nil_right (pick (constant_bounds f g) [] (place ∷ [])) (block_variable_fors b) h) fine y v us ds) n
          (constant_value f) (z + 1) w vs cs))))
      exact_statement place (return e) plain h fine z t vs cs = false_true plain
      exact_statement place (call f x es) plain h fine z t vs cs =
          within_proceeds (z + 1) (evaluate_all tracing arrays es vs cs t) _
          (λ ws u. within_proceeds (z + 1) (emit tracing 7 place f u) _
          (λ k y. proceeds_from (z + 1) (cost f) z (1 + cost f) (omega arith)
          (received_proceeds x vs (called f fine ws (z + 1) y cs))))

      exact_block : (b : Block) → plain_block b ≡ true → block_variable_fors b ≡ [] → ((g : ℕ) → block_calls (λ f. reach f g) b ≡ true → Fine g)
          → (z : ℕ) (t : T) (vs cs : List ℕ) → Proceeds z (block_cost cost b) (run_block tracing budget arrays callee b z t vs cs)
      exact_block done plain h fine z t vs cs = proceeds {y = z} (omega arith)
      exact_block (sequence p s b) plain h fine z t vs cs =
          tick_proceeds budget p t _ (λ u.
          then_proceeds (λ y w us ds. run_block tracing budget arrays callee b y w us ds)
          (exact_statement p s (and_left (plain_statement s) (plain_block b) plain) (nil_left (statement_variable_fors p s) (block_variable_fors b) h) (λ g r.
          fine g (or_left (statement_calls (λ f. reach f g) s) (block_calls (λ f. reach f g) b) r)) z u vs cs)
          (λ y w us ds. exact_block b (and_right (plain_statement s) (plain_block b) plain) (nil_right (statement_variable_fors p s) (block_variable_fors b)
          h) (λ g r. fine g (or_right (statement_calls (λ f. reach f g) s) (block_calls (λ f. reach f g) b) r)) y w us ds))

    -- a return whose own step is taken
    exact_return : (place : ℕ) (s : Statement) → is_return s ≡ true → (z : ℕ) (t : T) (vs cs : List ℕ) (f : Body T)
        → Takes z (statement_cost cost s + 0) (and_go (run_statement tracing budget arrays callee place s (z + 1) t vs cs) (after f))
    unfolding is_return statement_cost run_statement
    exact_return place (assign x e) r z t vs cs f = false_true r
    exact_return place (store a i e) r z t vs cs f = false_true r
    exact_return place (conditional c a b) r z t vs cs f = false_true r
    exact_return place (loop x g k b) r z t vs cs f = false_true r
    exact_return place (return e) r z t vs cs f = given (evaluate tracing arrays e vs cs t)
      where
        noted : (v : ℕ) (x : Evaluated T ℕ) → Takes z 1 (and_go (within (z + 1) x (λ _ u. on (back v cs) (z + 1) u)) (after f))
        noted v (value a u) = ends refl
        noted v (stop k l u) = halts

        given : (x : Evaluated T ℕ)
            → Takes z 1 (and_go (within (z + 1) x (λ v u. within (z + 1) (emit tracing 8 place 0 u) (λ _ w. on (back v cs) (z + 1) w))) (after f))
        given (value v u) = noted v (emit tracing 8 place 0 u)
        given (stop k l u) = halts
    exact_return place (call g x es) r z t vs cs f = false_true r

    exact_body : (b : Block) → straight_body b ≡ true → block_variable_fors b ≡ [] → ((g : ℕ) → block_calls (λ f. reach f g) b ≡ true → Fine g)
        → (z : ℕ) (t : T) (vs cs : List ℕ) → Takes z (block_cost cost b) (run_block tracing budget arrays callee b z t vs cs)
    unfolding straight_body block_cost block_calls block_variable_fors run_block
    exact_body done straight h fine z t vs cs = ends {y = z} (omega arith)
    exact_body (sequence p s done) straight h fine z t vs cs = tick_takes budget p t _ (λ u. go (plain_statement s) refl straight u)
      where
        go : (b : Bool) → plain_statement s ≡ b → (b || is_return s) ≡ true → (u : T)
            → Takes z (statement_cost cost s + 0)
            (and_go (run_statement tracing budget arrays callee p s (z + 1) u vs cs) (after (λ y w us ds. run_block tracing budget arrays callee done y w
            us ds)))
        go true e r u =
            then_takes (λ y w us ds. run_block tracing budget arrays callee done y w us ds)
            (exact_statement p s e (nil_left (statement_variable_fors p s) [] h) (λ g q. fine g (or_left (statement_calls (λ f. reach f g) s) false q)) z u
            vs cs)
            (λ y w us ds. ends {y = y} (omega arith))
        go false e r u = exact_return p s r z u vs cs (λ y w us ds. run_block tracing budget arrays callee done y w us ds)
    exact_body (sequence p s (sequence q r b)) straight h fine z t vs cs =
        tick_takes budget p t _ (λ u.
        then_takes (λ y w us ds. run_block tracing budget arrays callee (sequence q r b) y w us ds)
        (exact_statement p s (and_left (plain_statement s) (straight_body (sequence q r b)) straight) (nil_left (statement_variable_fors p s)
        (block_variable_fors (sequence q r b)) h) (λ g k. fine g (or_left (statement_calls (λ f. reach f g) s) (block_calls (λ f. reach f g) (sequence q r
        b)) k)) z u vs cs)
        (λ y w us ds. exact_body (sequence q r b) (and_right (plain_statement s) (straight_body (sequence q r b)) straight) (nil_right
        (statement_variable_fors p s) (block_variable_fors (sequence q r b)) h) (λ g k. fine g (or_right (statement_calls (λ f. reach f g) s) (block_calls
        (λ f. reach f g) (sequence q r b)) k)) y w us ds))

module _ {T : Type 0} (tracing : Trace T) (budget : ℕ) (arrays : List ℕ) (ps : List Procedure) where
  -- of a procedure: its bounds are constant, and it is straight
  abbrev pub Exact : ℕ → Type 0
  Exact g = (variable_fors_in ps g ≡ []) × (straight_body (procedure_at ps g).body ≡ true)

  -- procedure f, one of the first n, where it and those that it reaches are so
  pub exact_procedure : (n f : ℕ) → ((g : ℕ) → reaches ps n f g ≡ true → Exact g) → (ws : List ℕ) (z : ℕ) (t : T) (cs : List ℕ)
      → Takes z (procedure_cost ps n f) (run_procedure tracing budget arrays ps n f ws z t cs)
  unfolding reaches procedure_cost run_procedure
  exact_procedure zero f fine ws z t cs = ends {y = z} (omega arith)
  exact_procedure (suc n) f fine ws z t cs = go (eqb f n) fine (λ h k vs y u ds. exact_procedure n h k vs y u ds)
    where
      go : (b : Bool)
          → ((g : ℕ) → pick b (eqb g n || block_calls (λ h. reaches ps n h g) (procedure_at ps n).body) (reaches ps n f g) ≡ true → Exact g)
          → ((h : ℕ) → ((g : ℕ) → reaches ps n h g ≡ true → Exact g) → (vs : List ℕ) (y : ℕ) (u : T) (ds : List ℕ)
          → Takes y (procedure_cost ps n h) (run_procedure tracing budget arrays ps n h vs y u ds))
          → Takes z (pick b (block_cost (λ g. procedure_cost ps n g) (procedure_at ps n).body) (procedure_cost ps n f))
          (pick {A = ℕ → T → Ran T Given} b (λ y u. and_go
          (run_block tracing budget arrays (λ g vs x v ds. run_procedure tracing budget arrays ps n g vs x v ds) (procedure_at ps n).body y u (frame ws)
          cs)
          finish) (λ y u. run_procedure tracing budget arrays ps n f ws y u cs) z t)
      go true fine before =
          let (constants, straight) = fine n (or_left (eqb n n) (block_calls (λ h. reaches ps n h n) (procedure_at ps n).body) (eq-eqb n n refl)) in
          finish_takes (exact_body tracing budget arrays (λ g vs x v ds. run_procedure tracing budget arrays ps n g vs x v ds) (λ g. procedure_cost ps n
          g)
          (λ h g. reaches ps n h g) Exact before (procedure_at ps n).body straight constants
          (λ g r. fine g (or_right (eqb g n) (block_calls (λ h. reaches ps n h g) (procedure_at ps n).body) r)) z t (frame ws) cs)
      go false fine before = before f fine ws z t cs
