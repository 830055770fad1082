-- A statement and its compiled code end alike, while the source runs and the act is not 0. Assumes nothing.
use Rattle.std.specs.Prelude.{◌≡◌, ◌≢◌, Bool, ◌||◌, not, length, get_or, set}
use Rattle.std.proofs.Math.Path.{refl}
use Rattle.std.proofs.Common.{sym, ◌∙◌, ap, arith, get_or-set_same, get_or-set_other}
use Rattle.std.proofs.Math.Bool.{true, false}
use mathlib.Core.List.{List, [], ◌∷◌, ◌++◌, append-nil}
use Prim.Native.Nat.{ℕ, zero, suc, ◌+◌, ◌-◌, ◌<◌, ◌≤◌}
use Rattle.std.proofs.Math.Dec.{eqb}
use borrow.Author.Tests.{eqb-true, eqb-false}
use Rattle.definitions.specs.Choice.{pick}
use Rattle.definitions.specs.Arithmetic.{truth, logical_and, logical_not}
use Rattle.definitions.specs.Operators.{apply_binary, apply_unary}
use Rattle.definitions.specs.Image.{array_length, Expression, boolean, variable, cell, unary, select, Statement, assign}
use Rattle.definitions.specs.Image.{store, conditional, loop, return, call, Block, done, sequence, Procedure, guarded}
use Rattle.definitions.specs.Image.{procedure_at}
use Rattle.definitions.specs.Labels.{rc_after, rc_after_block, is_constant, constant_value}
use Rattle.definitions.specs.Compiling.{masked, under, one, followed_by, compiled_return, compiled_call, compiled_statement}
use Rattle.definitions.specs.Compiling.{compiled_block}
use Rattle.definitions.specs.Running.{Trace, value, on, within, and_go, after, emit, operated, evaluate, evaluate_all}
use Rattle.definitions.specs.Running.{Outcome, next, back, Given, gave, Callee, Body, passes, taken, received}
use Rattle.definitions.specs.Running.{run_statement, run_block}
use Rattle.preservation.specs.Relations.{SafeValue, sound, SimValue, Sim, meet, safe_bind, sim_within}
use Rattle.preservation.specs.Relations.{sim_go, sim_left, sim_more, sim_first, sim_then, sim_map, sim_value_map}
use Rattle.preservation.specs.Relations.{sim_value_then, both, emitted, tick_left, tick_right}
use Rattle.preservation.specs.Contexts.{rc_rises_block, rc_again, rc_secret_then, rc_secret_else, rc_public_then}
use Rattle.preservation.specs.Contexts.{rc_public_else}
use Rattle.preservation.specs.Evaluations.{index_value, safe_index, short_array, sim_index, sim_value, sim_bound}
use Rattle.preservation.specs.Evaluations.{sim_values}
use Rattle.preservation.specs.Layouts.{Layout, Scope, Reserved, Allocation, act_at, operand, operands, temporary_at}
use Rattle.preservation.specs.Layouts.{rc_after_at, rc_after_block_at, secret_at, slot}
use Rattle.preservation.specs.Rules.{ExpressionRules, assign_variable, assign_value, store_index, store_value}
use Rattle.preservation.specs.Rules.{store_bounded, if_condition, loop_from, loop_to, return_value, call_variable}
use Rattle.preservation.specs.Rules.{call_sorts, call_guarded, call_count}
use Rattle.preservation.specs.Positions.{code, codes, StatementAt, BlockAt, widened, entered, temporary_free}
use Rattle.preservation.specs.Positions.{first_statement, rest_block, secret_then, secret_else, public_then}
use Rattle.preservation.specs.Positions.{public_else, loop_block, loop_allocation, call_room}
use Rattle.preservation.specs.Runs.{Next, onward, run_followed, run_step, run_conditional, sim_one, sim_assign}
use Rattle.preservation.specs.Runs.{sim_assign_right}
use Rattle.preservation.specs.Acts.{off_arm, off_live, On, act_value, act_of, act_on, on_select, on_select_value}
use Rattle.preservation.specs.Acts.{truth_zero, Unchanged, pass_within, code_if_secret, code_if_public}
use Rattle.preservation.specs.Inactive.{InactiveCallee, inactive_passes, inactive_block}
use Rattle.preservation.specs.Frames.{Live, EndAlike, going, quit, deferred, end_alike_rise, live_still}
use Rattle.preservation.specs.Frames.{deferred_still, live_free, live_assign, live_return, live_widen}
use Rattle.preservation.specs.Frames.{live_narrow, deferred_narrow, live_enter, live_leave, deferred_leave}

-- the same result and the same cells
pub data SameGiven : Given → Given → Type 0 where
  same_given : {v : ℕ} {cs : List ℕ} → SameGiven (gave v cs) (gave v cs)

-- what the procedures that can be called have to be: alike, a guarded one with any guard that is not 0
pub record SimCallee (ps : List Procedure) (T U : Type 0) (J : Callee T) (K : Callee U) : Type 0 where
  pub plain : (f : ℕ) (ws : List ℕ) → guarded (procedure_at ps f) ≡ false → length ws ≡ (procedure_at ps f).parameters
      → (z : ℕ) (t : T) (y : ℕ) (u : U) (cs : List ℕ) → Sim SameGiven (J f ws z t cs) (K f ws y u cs)
  pub guard : (f : ℕ) (ws : List ℕ) (g : ℕ) → guarded (procedure_at ps f) ≡ true → g ≢ 0 → length ws ≡ (procedure_at ps f).parameters
      → (z : ℕ) (t : T) (y : ℕ) (u : U) (cs : List ℕ) → Sim SameGiven (J f ws z t cs) (K f (ws ++ (g ∷ [])) y u cs)

-- the outcomes of a call in a secret context, before its result is selected
data CallReturned (x j : ℕ) (us vs : List ℕ) : Outcome → Outcome → Type 0 where
  call_returned : (v : ℕ) {cs : List ℕ} → CallReturned x j us vs (next (set us x v) cs) (next (set vs j v) cs)

-- what a call gives, taken by both
received_alike : {T U : Type 0} (x j : ℕ) (us vs : List ℕ) (g g' : Given) (z y : ℕ) (t : T) (u : U) → SameGiven g g'
    → Sim (CallReturned x j us vs) (received x us g z t) (received j vs g' y u)
unfolding received
received_alike x j us vs (gave v _) (gave _ _) z y t u same_given = meet (call_returned v)

-- where the source runs the act is not 0
pub live_on : {L : Layout} {S : Scope} {pc : Bool} {arm : ℕ} {rc : Bool} {k size : ℕ} {end : Bool} {val : ℕ → ℕ} {us vs : List ℕ}
    → Allocation L S pc arm rc k size end → (pc ≡ true → val arm ≢ 0) → Live L S val us vs → On L pc arm rc vs
live_on {arm = arm} h o m = (λ p e. o p (sym (m.reserved arm (h.armed p)) ∙ e), λ r e. let a = m.alive (h.begins r) in absurd (omega arith))

module _ (L : Layout) {T U : Type 0} (C : Trace T) (D : Trace U) (budget budget' : ℕ) (J : Callee T) (K : Callee U) (ks : SimCallee L.procedures T U J K) (kq : InactiveCallee L.procedures K) where
  -- how a block of the source is run, and one of its code
  abbrev source : Block → Body T
  source b = λ z t us cs. run_block C budget L.arrays J b z t us cs

  abbrev target : Block → Body U
  target b = λ y u vs cs. run_block D budget' L.arrays K b y u vs cs

  abbrev pub Simulated : Statement → Type 0
  Simulated s = (l : ℕ) (S : Scope) (pc : Bool) (arm : ℕ) (rc : Bool) (k : ℕ) → StatementAt L S pc arm rc k l s → (val : ℕ → ℕ) → (pc ≡ true → val arm ≢ 0)
      → (z : ℕ) (t : T) (y : ℕ) (u : U) (us vs cs : List ℕ) → Live L S val us vs
      → Sim (EndAlike L S val (rc_after_at L pc rc s)) (run_statement C budget L.arrays J l s z t us cs) (target (code L s pc arm rc k) y u vs cs)

  abbrev pub SimulatedBlock : Block → Type 0
  SimulatedBlock b = (S : Scope) (pc : Bool) (arm : ℕ) (rc : Bool) (k : ℕ) → BlockAt L S pc arm rc k b → (val : ℕ → ℕ) → (pc ≡ true → val arm ≢ 0)
      → (z : ℕ) (t : T) (y : ℕ) (u : U) (us vs cs : List ℕ) → Live L S val us vs
      → Sim (EndAlike L S val (rc_after_block_at L pc rc b)) (source b z t us cs) (target (codes L b pc arm rc k) y u vs cs)

  live_value : {S : Scope} {context : Bool} {val : ℕ → ℕ} {us vs : List ℕ} {e : Expression} → ExpressionRules L S.marks S.bounds context e → Live L S val us vs → (cs : List ℕ) (t : T) (u : U)
      → SimValue (λ a b. a ≡ b) (evaluate C L.arrays e us cs t) (evaluate D L.arrays (operand L e) vs cs u)
  live_value {S = S} {us = us} {vs} {e} g m cs t u = sim_value C D L.types L.arrays S.marks L.first (length L.arrays) us vs cs m.vars e g.sorts t u

  any_value : (x : ℕ) (vs cs : List ℕ) (u : U) → SafeValue (λ (_ : ℕ). Unit {0}) (evaluate D L.arrays (variable 0 x) vs cs u)
  unfolding evaluate
  any_value x vs cs u = sound tt

  -- a value that is masked in a secret context
  masked_value : (pc : Bool) (arm : ℕ) (rc : Bool) {S : Scope} {val : ℕ → ℕ} {us vs : List ℕ} {e : Expression} → On L pc arm rc vs → ExpressionRules L S.marks S.bounds (pc || rc) e → Live L S val us vs
      → (cs : List ℕ) (old : Expression) → ((pc || rc) ≡ true → (u : U) → SafeValue (λ (_ : ℕ). Unit {0}) (evaluate D L.arrays old vs cs u)) → (t : T) (u : U)
      → SimValue (λ a b. a ≡ b) (evaluate C L.arrays e us cs t) (evaluate D L.arrays (masked (pc || rc) (act_at L pc arm rc) (operand L e) old) vs cs u)
  unfolding masked
  masked_value pc arm rc {S} {val} {us} {vs} {e} o g m cs old k t u = go (pc || rc) refl
    where
      go : (s : Bool) → (pc || rc) ≡ s → SimValue (λ a b. a ≡ b) (evaluate C L.arrays e us cs t) (evaluate D L.arrays (masked s (act_at L pc arm rc) (operand L e) old) vs cs u)
      go true s = on_select D L.arrays L pc arm rc vs o s cs (operand L e) old u (live_value g m cs t u) (k s)
      go false s = live_value g m cs t u

  pub simulate_assign : (x : ℕ) (e : Expression) → Simulated (assign x e)
  unfolding compiled_statement run_statement
  simulate_assign x e l S pc arm rc k h val o z t y u us vs cs m =
      sim_one D budget' L.arrays K (run_statement C budget L.arrays J l (assign x e) z t us cs)
      (assign (slot L x) (masked (pc || rc) (act_at L pc arm rc) (operand L e) (variable 0 (slot L x)))) y u vs cs λ w.
      sim_within z w (masked_value pc arm rc (live_on h.allocation o m) (assign_value h.rules) m cs (variable 0 (slot L x)) (λ _. any_value (slot L x) vs cs) t u) λ a b t' u' q.
      rw q (meet (going (live_assign h.allocation m x b (assign_variable h.rules))))

  pub simulate_store : (a : ℕ) (i e : Expression) → Simulated (store a i e)
  unfolding compiled_statement run_statement
  simulate_store a i e l S pc arm rc k h val o z t y u us vs cs m =
      sim_one D budget' L.arrays K (run_statement C budget L.arrays J l (store a i e) z t us cs)
      (store a (operand L i) (masked (pc || rc) (act_at L pc arm rc) (operand L e) (cell 0 a (operand L i)))) y u vs cs λ w.
      sim_within z w (live_value (store_index h.rules) m cs t u) λ i₁ i₂ t₁ u₁ p.
      rw p (sim_within z w (sim_index C D L.arrays a l 0 i₂ t₁ u₁) λ j₁ j₂ t₂ u₂ q.
      sim_within z w (masked_value pc arm rc (live_on h.allocation o m) (store_value h.rules) m cs (cell 0 a (operand L i)) old t₂ u₂) λ v₁ v₂ t₃ u₃ r.
      rw (q, r) (meet (going m)))
    where
      old : (pc || rc) ≡ true → (u : U) → SafeValue (λ (_ : ℕ). Unit {0}) (evaluate D L.arrays (cell 0 a (operand L i)) vs cs u)
      old s u = unfold evaluate in
          let j = index_value D L.arrays L.first vs cs S.bounds m.bounded (array_length (get_or L.arrays a 0)) (short_array (get_or L.arrays a 0)) i (store_bounded h.rules s) in
          rw (j.1 u) (safe_bind (safe_index D L.arrays L.first vs cs a 0 j.0 j.2 u) λ n w q. sound tt)

  pub simulate_return : (e : Expression) → Simulated (return e)
  unfolding compiled_statement rc_after
  simulate_return e l S pc arm rc k h val o z t y u us vs cs m = go (pc || rc) refl
    where
      go : (s : Bool) → (pc || rc) ≡ s
          → Sim (EndAlike L S val s) (run_statement C budget L.arrays J l (return e) z t us cs) (target (compiled_return s (act_at L pc arm rc) L.rv (operand L e)) y u vs cs)
      go true s = unfold compiled_return run_statement in
          let d = h.allocation.ends s in
          let a = live_on h.allocation o m in
          sim_assign D budget' L.arrays K (evaluate C L.arrays e us cs t) (λ v u. within z (emit C 8 l 0 u) (λ d x. on (back v cs) z x)) z L.rv (select 0 (act_at L pc arm rc) (operand L e) (variable 0 L.rv))
          (one (assign (L.rv + 1) (select 0 (act_at L pc arm rc) (boolean 0 0) (variable 0 (L.rv + 1))))) y u vs cs
          (on_select D L.arrays L pc arm rc vs a s cs (operand L e) (variable 0 L.rv) u (live_value (return_value h.rules) m cs t u) (any_value L.rv vs cs))
          λ v₁ v₂ t₁ y₁ u₁ q. rw q (sim_left z (emitted C 8 l 0 t₁) λ c x _.
          sim_assign_right D budget' L.arrays K (on (back v₂ cs) z x) (L.rv + 1) (select 0 (act_at L pc arm rc) (boolean 0 0) (variable 0 (L.rv + 1))) done y₁ u₁ (set vs L.rv v₂) cs
          (on_select_value D L.arrays L pc arm rc (set vs L.rv v₂) (on_still v₂ d) s cs (boolean 0 0) (variable 0 (L.rv + 1)) 0 u₁ (zero_value (set vs L.rv v₂) u₁) (any_value (L.rv + 1) (set vs L.rv v₂) cs))
          λ n y₂ u₂ r. rw r (meet (deferred refl (live_return h.allocation d m v₂))))
        where
          zero_value : (ws : List ℕ) (w : U) → SafeValue (λ v. v ≡ 0) (evaluate D L.arrays (boolean 0 0) ws cs w)
          zero_value ws w = unfold evaluate in sound refl

          on_still : (v : ℕ) → L.defers ≡ true → On L pc arm rc (set vs L.rv v)
          on_still v d =
              let a = live_on h.allocation o m in
              (λ p. rw (get_or-set_other vs L.rv arm v 0 ((h.allocation.armed p).2 d)) (a.0 p), λ p. rw (get_or-set_other vs L.rv (L.rv + 1) v 0 (λ e. absurd (omega arith))) (a.1 p))
      go false s = unfold compiled_return run_statement in
          sim_one D budget' L.arrays K (run_statement C budget L.arrays J l (return e) z t us cs) (return (operand L e)) y u vs cs λ w.
          sim_within z w (live_value (return_value h.rules) m cs t u) λ v₁ v₂ t₁ u₁ q.
          sim_within z w (both (emitted C 8 l 0 t₁) (emitted D 8 0 0 u₁)) λ d₁ d₂ t₂ u₂ _. rw q (meet quit)

  -- a call's result goes to its variable
  pub simulate_call_public : (f x : ℕ) (es : List Expression) (l : ℕ) (S : Scope) (pc : Bool) (arm : ℕ) (rc : Bool) (k : ℕ) → StatementAt L S pc arm rc k l (call f x es) → (val : ℕ → ℕ)
      → (z : ℕ) (t : T) (y : ℕ) (u : U) (us vs cs : List ℕ) → Live L S val us vs → (rest : List Expression) (xs : List ℕ) → ((w : U) → evaluate_all D L.arrays rest vs cs w ≡ value xs w)
      → ((ws : List ℕ) → length ws ≡ (procedure_at L.procedures f).parameters → (n : ℕ) (w : T) (j : ℕ) (v : U) → Sim SameGiven (J f ws n w cs) (K f (ws ++ xs) j v cs))
      → Sim (EndAlike L S val rc) (run_statement C budget L.arrays J l (call f x es) z t us cs) (target (one (call f (slot L x) (operands L es ++ rest))) y u vs cs)
  unfolding run_statement
  simulate_call_public f x es l S pc arm rc k h val z t y u us vs cs m rest xs q c =
      sim_one D budget' L.arrays K (run_statement C budget L.arrays J l (call f x es) z t us cs) (call f (slot L x) (operands L es ++ rest)) y u vs cs λ w.
      sim_within z w (sim_values C D L.types L.arrays S.marks L.first (length L.arrays) us vs cs m.vars (procedure_at L.procedures f).types 0 es (call_sorts h.rules) rest xs q t u) λ a b t₁ u₁ r.
      sim_within z w (both (emitted C 7 l f t₁) (emitted D 7 0 f u₁)) λ _ _ t₂ u₂ _.
      rw r.0 (sim_go (c a (r.1 ∙ call_count h.rules) z t₂ w u₂) λ g g' z₁ y₁ t₃ u₃ e. got g g' z₁ y₁ t₃ u₃ e)
    where
      got : (g g' : Given) (z₁ y₁ : ℕ) (t₃ : T) (u₃ : U) → SameGiven g g' → Sim (EndAlike L S val rc) (received x us g z₁ t₃) (received (slot L x) vs g' y₁ u₃)
      got (gave v _) (gave _ _) z₁ y₁ t₃ u₃ same_given = unfold received in meet (going (live_assign h.allocation m x v (call_variable h.rules)))

  -- a call's result goes to a variable that is not in use, and is selected from there
  pub simulate_call_secret : (f x : ℕ) (es : List Expression) (l : ℕ) (S : Scope) (pc : Bool) (arm : ℕ) (rc : Bool) (k : ℕ) → StatementAt L S pc arm rc k l (call f x es)
      → (val : ℕ → ℕ) → (pc ≡ true → val arm ≢ 0) → (pc || rc) ≡ true → (j : ℕ) → S.limit ≤ j → j < 255
      → (z : ℕ) (t : T) (y : ℕ) (u : U) (us vs cs : List ℕ) → Live L S val us vs
      → Sim (EndAlike L S val rc) (run_statement C budget L.arrays J l (call f x es) z t us cs)
      (target (sequence 0 (call f j (operands L es ++ (act_at L pc arm rc ∷ []))) (one (assign (slot L x) (select 0 (act_at L pc arm rc) (variable 0 j) (variable 0 (slot L x)))))) y u vs cs)
  unfolding run_statement run_block
  simulate_call_secret f x es l S pc arm rc k h val o s j free room z t y u us vs cs m =
      tick_right budget' 0 y u _ _ λ w. sim_then
      (sim_within z w (sim_values C D L.types L.arrays S.marks L.first (length L.arrays) us vs cs m.vars (procedure_at L.procedures f).types 0 es (call_sorts h.rules) (act_at L pc arm rc ∷ []) (n ∷ []) last t u) λ a b t₁ u₁ r.
      sim_within z w (both (emitted C 7 l f t₁) (emitted D 7 0 f u₁)) λ _ _ t₂ u₂ _.
      rw r.0 (sim_go (ks.guard f a n (call_guarded h.rules s) nonzero (r.1 ∙ call_count h.rules) z t₂ w u₂ cs) λ g g' z₁ y₁ t₃ u₃ e. got g g' z₁ y₁ t₃ u₃ e))
      λ p p' z₁ t₁ y₁ u₁ e. select_result p p' z₁ t₁ y₁ u₁ e
    where
      n : ℕ
      n = act_of pc rc (get_or vs arm 0) (get_or vs (L.rv + 1) 0)

      nonzero : n ≢ 0
      nonzero = let a = live_on h.allocation o m in eqb-false n 0 (act_on pc rc (get_or vs arm 0) (get_or vs (L.rv + 1) 0) s a.0 a.1)

      last : (w : U) → evaluate_all D L.arrays (act_at L pc arm rc ∷ []) vs cs w ≡ value (n ∷ []) w
      last w = unfold evaluate_all in rw (act_value D L.arrays pc arm rc (L.rv + 1) vs cs w) refl

      got : (g g' : Given) (z₁ y₁ : ℕ) (t₃ : T) (u₃ : U) → SameGiven g g' → Sim (CallReturned x j us vs) (received x us g z₁ t₃) (received j vs g' y₁ u₃)
      got g g' z₁ y₁ t₃ u₃ e = received_alike x j us vs g g' z₁ y₁ t₃ u₃ e

      result_value : (v : ℕ) (ds : List ℕ) (w : U) → SafeValue (λ r. r ≡ v) (evaluate D L.arrays (variable 0 j) (set vs j v) ds w)
      result_value v ds w = unfold evaluate in sound (get_or-set_same vs j v 0 (let r = room in let i = m.size in omega arith))

      select_result : (p p' : Outcome) (z₁ : ℕ) (t₁ : T) (y₁ : ℕ) (u₁ : U) → CallReturned x j us vs p p'
          → Sim (EndAlike L S val rc) (on p z₁ t₁) (after (λ w v us ds. target (one (assign (slot L x) (select 0 (act_at L pc arm rc) (variable 0 j) (variable 0 (slot L x))))) w v us ds) p' y₁ u₁)
      select_result (next _ ds) (next _ _) z₁ t₁ y₁ u₁ (call_returned v) =
          let m' = live_free h.allocation m j v free in
          sim_assign_right D budget' L.arrays K (on (next (set us x v) ds) z₁ t₁) (slot L x) (select 0 (act_at L pc arm rc) (variable 0 j) (variable 0 (slot L x))) done y₁ u₁ (set vs j v) ds
          (on_select_value D L.arrays L pc arm rc (set vs j v) (live_on h.allocation o m') s ds (variable 0 j) (variable 0 (slot L x)) v u₁ (result_value v ds u₁) (any_value (slot L x) (set vs j v) ds))
          λ r y₂ u₂ q. rw q (meet (going (live_assign h.allocation m' x v (call_variable h.rules))))
      select_result (next _ ds) (back _ _) z₁ t₁ y₁ u₁ h = elim h [ ]
      select_result (back _ _) _ z₁ t₁ y₁ u₁ h = elim h [ ]

  pub simulate_call : (f x : ℕ) (es : List Expression) → Simulated (call f x es)
  unfolding compiled_statement rc_after compiled_call
  simulate_call f x es l S pc arm rc k h val o z t y u us vs cs m = go (pc || rc) refl (guarded (procedure_at L.procedures f)) refl
    where
      go : (s : Bool) → (pc || rc) ≡ s → (g : Bool) → guarded (procedure_at L.procedures f) ≡ g
          → Sim (EndAlike L S val rc) (run_statement C budget L.arrays J l (call f x es) z t us cs)
          (target (compiled_call s g (act_at L pc arm rc) (temporary_at L f) f (slot L x) (operands L es)) y u vs cs)
      go true s g q =
          simulate_call_secret f x es l S pc arm rc k h val o s (temporary_at L f) (temporary_free h.allocation f) (call_room h s) z t y u us vs cs m
      go false s true q =
          simulate_call_public f x es l S pc arm rc k h val z t y u us vs cs m (boolean 0 1 ∷ []) (1 ∷ []) (λ w. unfold evaluate_all evaluate in refl)
          λ ws e n w j v. ks.guard f ws 1 q (λ i. absurd (omega arith)) e n w j v cs
      go false s false q =
          simulate_call_public f x es l S pc arm rc k h val z t y u us vs cs m [] [] (λ w. unfold evaluate_all in refl)
          λ ws e n w j v. rw (append-nil ws) (ks.plain f ws q e n w j v cs)

  -- T, which is 0 where the condition is
  pub then_value : {S : Scope} (pc : Bool) (arm : ℕ) (rc : Bool) {val : ℕ → ℕ} {us vs : List ℕ} {c : Expression} → On L pc arm rc vs → ExpressionRules L S.marks S.bounds (pc || rc) c → Live L S val us vs
      → (cs : List ℕ) (t : T) (u : U)
      → SimValue (λ v w. eqb w 0 ≡ eqb v 0) (evaluate C L.arrays c us cs t) (evaluate D L.arrays (under (pc || rc) (act_at L pc arm rc) (operand L c)) vs cs u)
  then_value {S} pc arm rc {val} {us} {vs} {c} o g m cs t u = go (pc || rc) refl
    where
      go : (s : Bool) → (pc || rc) ≡ s
          → SimValue (λ v w. eqb w 0 ≡ eqb v 0) (evaluate C L.arrays c us cs t) (evaluate D L.arrays (under s (act_at L pc arm rc) (operand L c)) vs cs u)
      go true s = unfold under evaluate operated apply_binary in
          rw (act_value D L.arrays pc arm rc (L.rv + 1) vs cs u)
          (sim_value_then (λ w. logical_and (act_of pc rc (get_or vs arm 0) (get_or vs (L.rv + 1) 0)) w) (live_value g m cs t u)
          λ v w q. rw (q, act_on pc rc (get_or vs arm 0) (get_or vs (L.rv + 1) 0) s o.0 o.1) (truth_zero w))
      go false s = unfold under in sim_value_map (λ v w q. rw q refl) (live_value g m cs t u)

  -- E, which is 0 where T is not
  pub else_value : (pc : Bool) (arm : ℕ) (rc : Bool) (ws : List ℕ) → On L pc arm rc ws → (k v : ℕ) → get_or ws k 0 ≡ v → (cs : List ℕ) (u : U)
      → SafeValue (λ w. eqb w 0 ≡ not (eqb v 0)) (evaluate D L.arrays (under (pc || rc) (act_at L pc arm rc) (unary 0 0 (variable 0 k))) ws cs u)
  else_value pc arm rc ws o k v e cs u = go (pc || rc) refl
    where
      negated : (b : Bool) → eqb (pick b 1 0) 0 ≡ not b
      negated true = refl
      negated false = refl

      joined : (n : ℕ) → eqb n 0 ≡ false → eqb (logical_and n (logical_not v)) 0 ≡ not (eqb v 0)
      joined n q = rw q (truth_zero (logical_not v) ∙ negated (eqb v 0))

      go : (s : Bool) → (pc || rc) ≡ s → SafeValue (λ w. eqb w 0 ≡ not (eqb v 0)) (evaluate D L.arrays (under s (act_at L pc arm rc) (unary 0 0 (variable 0 k))) ws cs u)
      go true s = unfold under evaluate operated apply_binary apply_unary in
          rw (act_value D L.arrays pc arm rc (L.rv + 1) ws cs u, e)
          (sound (joined (act_of pc rc (get_or ws arm 0) (get_or ws (L.rv + 1) 0)) (act_on pc rc (get_or ws arm 0) (get_or ws (L.rv + 1) 0) s o.0 o.1)))
      go false s = unfold under evaluate apply_unary in rw e (sound (negated (eqb v 0)))

  -- The arms of a secret if, once T and E are set: the one that the source takes runs with it, the other is inactive.
  module _ (c : Expression) (a b : Block) (ma : SimulatedBlock a) (mb : SimulatedBlock b) (e : secret_at L c ≡ true) (l : ℕ) (S : Scope) (pc : Bool) (arm : ℕ) (rc : Bool) (k : ℕ)
      (h : StatementAt L S pc arm rc k l (conditional c a b)) (val now : ℕ → ℕ) (same : (y : ℕ) → Reserved L S.limit y → now y ≡ val y) where
    wide : S.limit ≤ k + 2
    wide = let f = h.allocation.free in omega arith

    -- the second arm after the first has run with the source
    after_then : now (k + 1) ≡ 0 → (p q : Outcome) (z : ℕ) (t : T) (y : ℕ) (u : U) → EndAlike L (widened S (k + 2)) now (rc_after_block_at L true rc a) p q
        → Sim (EndAlike L S val (rc_after_at L pc rc (conditional c a b))) (on p z t)
        (after (λ w v xs ds. target (codes L b true (k + 1) rc (k + 2)) w v xs ds) q y u)
    after_then n (next us ds) (next vs _) z t y u (going m) =
        let s = secret_else h e in
        sim_more (inactive_block L D budget' K kq b (widened S (k + 2)) true (k + 1) rc (k + 2) s y u vs ds
        (record { size = m.size; off = off_arm refl (m.reserved (k + 1) (s.allocation.armed refl) ∙ n); bounded = m.bounded })) λ q x. go q x
      where
        go : (q : Outcome) → Next (Unchanged L (widened S (k + 2)) vs) ds q → EndAlike L S val (rc_after_at L pc rc (conditional c a b)) (next us ds) q
        go (next _ _) (onward x) = going (live_narrow wide same (live_still (secret_else h e).allocation m x))
        go (back _ _) h = elim h [ ]
    after_then n (next us ds) (back _ _) z t y u h = elim h [ ]
    after_then n (back v ds) (back _ _) z t y u quit = meet quit
    after_then n (back v ds) (next vs _) z t y u (deferred r m) =
        let s = secret_else h e in
        sim_more (inactive_block L D budget' K kq b (widened S (k + 2)) true (k + 1) rc (k + 2) s y u vs ds
        (record { size = m.size; off = off_arm refl (m.reserved (k + 1) (s.allocation.armed refl) ∙ n); bounded = m.bounded })) λ q x. go q x
      where
        go : (q : Outcome) → Next (Unchanged L (widened S (k + 2)) vs) ds q → EndAlike L S val (rc_after_at L pc rc (conditional c a b)) (back v ds) q
        go (next _ _) (onward x) =
            deferred (rc_secret_then L.types L.arrays c a b pc rc e r) (deferred_narrow wide same (deferred_still (secret_else h e).allocation ((secret_then h e).allocation.ends r) m x))
        go (back _ _) h = elim h [ ]

    -- the end of the second arm, run with the source
    after_else : (p q : Outcome) → EndAlike L (widened S (k + 2)) now (rc_after_block_at L true rc b) p q
        → EndAlike L S val (rc_after_at L pc rc (conditional c a b)) p q
    after_else (next _ _) (next _ _) (going m) = going (live_narrow wide same m)
    after_else (next _ _) (back _ _) h = elim h [ ]
    after_else (back _ _) (back _ _) quit = quit
    after_else (back _ _) (next _ _) (deferred r m) = deferred (rc_secret_else L.types L.arrays c a b pc rc e r) (deferred_narrow wide same m)

    pub simulate_arms : (v : ℕ) → eqb (now k) 0 ≡ eqb v 0 → eqb (now (k + 1)) 0 ≡ not (eqb v 0) → (z : ℕ) (t : T) (y : ℕ) (u : U) (us vs cs : List ℕ) → Live L (widened S (k + 2)) now us vs
        → Sim (EndAlike L S val (rc_after_at L pc rc (conditional c a b)))
        (taken (truth v) (λ y w us ds. source a y w us ds) (λ y w us ds. source b y w us ds) z t us cs)
        (target (followed_by (codes L a true k rc (k + 2)) (codes L b true (k + 1) rc (k + 2))) y u vs cs)
    unfolding taken
    simulate_arms v p q z t y u us vs cs m =
        rw (truth_zero v, run_followed D budget' L.arrays K (codes L a true k rc (k + 2)) (codes L b true (k + 1) rc (k + 2)) y u vs cs) (go (eqb v 0) p q)
      where
        enter_else : eqb (now (k + 1)) 0 ≡ false → (o : Outcome) (w : ℕ) (x : U) → Next (Unchanged L (widened S (k + 2)) vs) cs o
            → Sim (EndAlike L S val (rc_after_at L pc rc (conditional c a b))) (source b z t us cs)
            (after (λ w v xs ds. target (codes L b true (k + 1) rc (k + 2)) w v xs ds) o w x)
        enter_else n (next xs _) w x (onward r) =
            sim_map after_else (mb (widened S (k + 2)) true (k + 1) rc (k + 2) (secret_else h e) now (λ _. eqb-false (now (k + 1)) 0 n) z t w x us xs cs (live_still (secret_then h e).allocation m r))
        enter_else n (back _ _) w x h = elim h [ ]

        go : (s : Bool) → eqb (now k) 0 ≡ s → eqb (now (k + 1)) 0 ≡ not s
            → Sim (EndAlike L S val (rc_after_at L pc rc (conditional c a b)))
            (pick {A = Body T} s (λ y w us ds. source b y w us ds) (λ y w us ds. source a y w us ds) z t us cs)
            (and_go (target (codes L a true k rc (k + 2)) y u vs cs) (after (λ w v xs ds. target (codes L b true (k + 1) rc (k + 2)) w v xs ds)))
        go true p' q' =
            sim_first (inactive_block L D budget' K kq a (widened S (k + 2)) true k rc (k + 2) (secret_then h e) y u vs cs
            (record { size = m.size; off = off_arm refl (m.reserved k ((secret_then h e).allocation.armed refl) ∙ eqb-true (now k) 0 p'); bounded = m.bounded })) λ o w x r. enter_else q' o w x r
        go false p' q' =
            sim_then (ma (widened S (k + 2)) true k rc (k + 2) (secret_then h e) now (λ _. eqb-false (now k) 0 p') z t y u us vs cs m) λ o o' z₁ t₁ y₁ u₁ r. after_then (eqb-true (now (k + 1)) 0 q') o o' z₁ t₁ y₁ u₁ r

  pub simulate_if_secret : (c : Expression) (a b : Block) → SimulatedBlock a → SimulatedBlock b → secret_at L c ≡ true → Simulated (conditional c a b)
  simulate_if_secret c a b ma mb e l S pc arm rc k h val o z t y u us vs cs m =
      rw (run_conditional C budget L.arrays J l c a b z t us cs, code_if_secret L pc arm rc k c a b e)
      (sim_assign D budget' L.arrays K (evaluate C L.arrays c us cs t) _ z k (under (pc || rc) (act_at L pc arm rc) (operand L c)) _ y u vs cs
      (then_value pc arm rc (live_on h.allocation o m) (if_condition h.rules) m cs t u)
      λ v w t₁ y₁ u₁ q. let m₁ = live_free h.allocation m k w h.allocation.free in
      sim_assign_right D budget' L.arrays K _ (k + 1) (under (pc || rc) (act_at L pc arm rc) (unary 0 0 (variable 0 k))) _ y₁ u₁ (set vs k w) cs
      (else_value pc arm rc (set vs k w) (live_on h.allocation o m₁) k w (get_or-set_same vs k w 0 (let i = m.size in let j = room in omega arith)) cs u₁)
      λ w' y₂ u₂ r. let m₂ = live_free h.allocation m₁ (k + 1) w' (let f = h.allocation.free in omega arith) in
      sim_left z (emitted C 1 l (truth v) t₁) λ d t₂ p. rw p
      (simulate_arms c a b ma mb e l S pc arm rc k h val (λ n. get_or (set (set vs k w) (k + 1) w') n 0) m₂.reserved v
      (rw (get_or-set_other (set vs k w) (k + 1) k w' 0 (λ i. absurd (omega arith)), get_or-set_same vs k w 0 (let i = m.size in let j = room in omega arith)) q)
      (rw (get_or-set_same (set vs k w) (k + 1) w' 0 (let i = m₁.size in let j = room in omega arith)) (r ∙ ap not q))
      z t₂ y₂ u₂ us (set (set vs k w) (k + 1) w') cs (live_widen m₂ (k + 2))))
    where
      room : k + 2 ≤ 255
      room = let r = (secret_then h e).allocation.room in omega arith

  pub simulate_if_public : (c : Expression) (a b : Block) → SimulatedBlock a → SimulatedBlock b → secret_at L c ≡ false → Simulated (conditional c a b)
  unfolding taken
  simulate_if_public c a b ma mb e l S pc arm rc k h val o z t y u us vs cs m =
      rw (code_if_public L pc arm rc k c a b e)
      (sim_one D budget' L.arrays K (run_statement C budget L.arrays J l (conditional c a b) z t us cs)
      (conditional (operand L c) (codes L a pc arm rc k) (codes L b pc arm rc k)) y u vs cs λ w.
      rw (
        run_conditional C budget L.arrays J l c a b z t us cs,
        run_conditional D budget' L.arrays K 0 (operand L c) (codes L a pc arm rc k) (codes L b pc arm rc k) w u vs cs,
      )
      (sim_within z w (live_value (if_condition h.rules) m cs t u) λ v v' t₁ u₁ q.
      rw q (sim_within z w (both (emitted C 1 l (truth v') t₁) (emitted D 1 0 (truth v') u₁)) λ d d' t₂ u₂ r.
      rw (r.0, r.1) (go (eqb (truth v') 0) w t₂ u₂))))
    where
      go : (s : Bool) (w : ℕ) (t₂ : T) (u₂ : U)
          → Sim (EndAlike L S val (rc_after_at L pc rc (conditional c a b)))
          (pick {A = Body T} s (λ y w us ds. source b y w us ds) (λ y w us ds. source a y w us ds) z t₂ us cs)
          (pick {A = Body U} s (λ y w us ds. target (codes L b pc arm rc k) y w us ds) (λ y w us ds. target (codes L a pc arm rc k) y w us ds) w u₂ vs cs)
      go true w t₂ u₂ = sim_map (end_alike_rise (rc_public_else L.types L.arrays c a b pc rc e)) (mb S pc arm rc k (public_else h e) val o z t₂ w u₂ us vs cs m)
      go false w t₂ u₂ = sim_map (end_alike_rise (rc_public_then L.types L.arrays c a b pc rc e)) (ma S pc arm rc k (public_then h e) val o z t₂ w u₂ us vs cs m)

  pub simulate_if : (c : Expression) (a b : Block) → SimulatedBlock a → SimulatedBlock b → Simulated (conditional c a b)
  simulate_if c a b ma mb = go (secret_at L c) refl
    where
      go : (s : Bool) → secret_at L c ≡ s → Simulated (conditional c a b)
      go true e = simulate_if_secret c a b ma mb e
      go false e = simulate_if_public c a b ma mb e

  -- the passes of a for; where one of them returns in the source, the code's passes that are left are inactive
  module _ (x : ℕ) (f g : Expression) (b : Block) (mb : SimulatedBlock b) (l : ℕ) (S : Scope) (pc : Bool) (arm : ℕ) (rc : Bool) (k : ℕ) (h : StatementAt L S pc arm rc k l (loop x f g b))
      (val : ℕ → ℕ) (o : pc ≡ true → val arm ≢ 0) (from to : ℕ) (d : is_constant f ≡ true → from ≡ constant_value f) (c : is_constant g ≡ true → to ≡ constant_value g) where
    next_pass : (n i : ℕ) → from ≤ i → n ≡ to - i
        → ((z : ℕ) (t : T) (y : ℕ) (u : U) (us vs cs : List ℕ) → Live L S val us vs → Sim (EndAlike L S val (rc_after_block_at L pc rc b))
        (passes budget l x (λ n p us ds. source b n p us ds) n i z t us cs)
        (passes budget' 0 (slot L x) (λ n p us ds. target (codes L b pc arm (rc_after_block_at L pc rc b) k) n p us ds) n i y u vs cs))
        → (p q : Outcome) (z : ℕ) (t : T) (y : ℕ) (u : U)
        → EndAlike L (entered S x f g) val (rc_after_block_at L pc (rc_after_block_at L pc rc b) b) p q
        → Sim (EndAlike L S val (rc_after_block_at L pc rc b))
        (after (λ w v us ds. passes budget l x (λ n p us ds. source b n p us ds) n i w v us ds) p z t)
        (after (λ w v us ds. passes budget' 0 (slot L x) (λ n p us ds. target (codes L b pc arm (rc_after_block_at L pc rc b) k) n p us ds) n i w v us ds) q y u)
    unfolding rc_after
    next_pass n i a e ih (next us ds) (next vs _) z t y u (going m) = ih z t y u us vs ds (live_leave h m)
    next_pass n i a e ih (next us ds) (back _ _) z t y u h = elim h [ ]
    next_pass n i a e ih (back v ds) (back _ _) z t y u quit = meet quit
    next_pass n i a e ih (back v ds) (next vs _) z t y u (deferred r m) =
        let s = rc_again L.types L.arrays b pc rc r in
        sim_more (inactive_passes L D budget' K kq x f g b (inactive_block L D budget' K kq b) l 0 S pc arm rc k h from to d c n i a e y u vs ds
        (record { size = m.size; off = off_live s m.ended; bounded = (deferred_leave h m).bounded })) λ q a. go q a
      where
        go : (q : Outcome) → Next (Unchanged L S vs) ds q → EndAlike L S val (rc_after_block_at L pc rc b) (back v ds) q
        go (next _ _) (onward a) =
            let s = rc_again L.types L.arrays b pc rc r in
            deferred s (deferred_still (loop_allocation h) ((loop_allocation h).begins s) (deferred_leave h m) a)
        go (back _ _) h = elim h [ ]

    pub simulate_passes : (n i : ℕ) → from ≤ i → n ≡ to - i → (z : ℕ) (t : T) (y : ℕ) (u : U) (us vs cs : List ℕ) → Live L S val us vs
        → Sim (EndAlike L S val (rc_after_block_at L pc rc b))
        (passes budget l x (λ n p us ds. source b n p us ds) n i z t us cs)
        (passes budget' 0 (slot L x) (λ n p us ds. target (codes L b pc arm (rc_after_block_at L pc rc b) k) n p us ds) n i y u vs cs)
    unfolding passes
    simulate_passes zero i a e z t y u us vs cs m = meet (going m)
    simulate_passes (suc n) i a e z t y u us vs cs m =
        tick_left budget l z t _ _ λ z₁. tick_right budget' 0 y u _ _ λ y₁.
        sim_go (mb (entered S x f g) pc arm (rc_after_block_at L pc rc b) k (loop_block h) val o z₁ t y₁ u (set us x i) (set vs (slot L x) i) cs
        (live_enter h m i (λ q. pass_within h from to d c i a (omega arith) q)))
        λ p q z₂ y₂ t₂ u₂ r. next_pass n (i + 1) (omega arith) (omega arith) (simulate_passes n (i + 1) (omega arith) (omega arith)) p q z₂ t₂ y₂ u₂ r

  pub simulate_loop : (x : ℕ) (f g : Expression) (b : Block) → SimulatedBlock b → Simulated (loop x f g b)
  unfolding compiled_statement run_statement rc_after
  simulate_loop x f g b mb l S pc arm rc k h val o z t y u us vs cs m =
      sim_one D budget' L.arrays K (run_statement C budget L.arrays J l (loop x f g b) z t us cs)
      (loop (slot L x) (operand L f) (operand L g) (codes L b pc arm (rc_after_block_at L pc rc b) k)) y u vs cs λ w.
      sim_within z w (sim_bound C D L.types L.arrays S.marks L.first (length L.arrays) us vs cs m.vars f (loop_from h.rules).sorts t u) λ f₁ f₂ t₁ u₁ p.
      sim_within z w (sim_bound C D L.types L.arrays S.marks L.first (length L.arrays) us vs cs m.vars g (loop_to h.rules).sorts t₁ u₁) λ g₁ g₂ t₂ u₂ q.
      sim_within z w (both (emitted C 2 l f₁ t₂) (emitted D 2 0 f₂ u₂)) λ _ _ t₃ u₃ _.
      sim_within z w (both (emitted C 3 l g₁ t₃) (emitted D 3 0 g₂ u₃)) λ _ _ t₄ u₄ _.
      rw (p.0, q.0) (simulate_passes x f g b mb l S pc arm rc k h val o f₂ g₂ p.1 q.1 (g₂ - f₂) f₂ (omega arith) refl z t₄ w u₄ us vs cs m)

  pub simulate_done : SimulatedBlock done
  unfolding compiled_block run_block
  simulate_done S pc arm rc k h val o z t y u us vs cs m = meet (going m)

  pub simulate_step : (l : ℕ) (s : Statement) (b : Block) → Simulated s → SimulatedBlock b → SimulatedBlock (sequence l s b)
  unfolding compiled_block rc_after_block
  simulate_step l s b ms mb S pc arm rc k h val o z t y u us vs cs m =
      rw (
        run_step C budget L.arrays J l s b z t us cs,
        run_followed D budget' L.arrays K (code L s pc arm rc k) (codes L b pc arm (rc_after_at L pc rc s) k) y u vs cs,
      )
      (tick_left budget l z t _ _ λ z₁. sim_go (ms l S pc arm rc k (first_statement h) val o z₁ t y u us vs cs m) λ p q z₂ y₂ t₂ u₂ r. next_statement p q z₂ t₂ y₂ u₂ r)
    where
      next_statement : (p q : Outcome) (z : ℕ) (t : T) (y : ℕ) (u : U) → EndAlike L S val (rc_after_at L pc rc s) p q
          → Sim (EndAlike L S val (rc_after_block_at L pc (rc_after_at L pc rc s) b))
          (after (λ w v us ds. source b w v us ds) p z t)
          (after (λ w v us ds. target (codes L b pc arm (rc_after_at L pc rc s) k) w v us ds) q y u)
      next_statement (next us ds) (next vs _) z t y u (going m) = mb S pc arm (rc_after_at L pc rc s) k (rest_block h) val o z t y u us vs ds m
      next_statement (next us ds) (back _ _) z t y u h = elim h [ ]
      next_statement (back v ds) (back _ _) z t y u quit = meet quit
      next_statement (back v ds) (next vs _) z t y u (deferred r m) =
          sim_more (inactive_block L D budget' K kq b S pc arm (rc_after_at L pc rc s) k (rest_block h) y u vs ds
          (record { size = m.size; off = off_live r m.ended; bounded = m.bounded })) λ q a. go q a
        where
          go : (q : Outcome) → Next (Unchanged L S vs) ds q → EndAlike L S val (rc_after_block_at L pc (rc_after_at L pc rc s) b) (back v ds) q
          go (next _ _) (onward a) = deferred (rc_rises_block L.types L.arrays b pc (rc_after_at L pc rc s) r) (deferred_still (rest_block h).allocation ((rest_block h).allocation.begins r) m a)
          go (back _ _) h = elim h [ ]

  mutual
    pub simulated : (s : Statement) → Simulated s
    simulated (assign x e) = simulate_assign x e
    simulated (store a i e) = simulate_store a i e
    simulated (conditional c a b) = simulate_if c a b (simulated_block a) (simulated_block b)
    simulated (loop x f g b) = simulate_loop x f g b (simulated_block b)
    simulated (return e) = simulate_return e
    simulated (call f x es) = simulate_call f x es

    pub simulated_block : (b : Block) → SimulatedBlock b
    simulated_block done = simulate_done
    simulated_block (sequence l s b) = simulate_step l s b (simulated s) (simulated_block b)
