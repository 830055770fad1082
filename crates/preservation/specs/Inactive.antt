-- Where the act is 0, compiled code does not fault, does not return, and leaves the variables in use and the cells as they were.
-- Assumes nothing.
use Rattle.std.specs.Prelude.{◌≡◌, Bool, true, false, ◌||◌, ℕ, ◌+◌, ◌-◌, ◌<◌, ◌≤◌, length, get_or, set}
use Rattle.std.proofs.Math.Path.{refl}
use Rattle.std.proofs.Common.{◌∙◌, arith, get_or-set_same, get_or-set_other}
use mathlib.Core.List.{List, [], ◌∷◌, ◌++◌}
use Rattle.std.proofs.Math.Seq.{set-get_or}
use Rattle.definitions.specs.Image.{array_length, base_of, Expression, boolean, variable, cell, unary, select, Statement}
use Rattle.definitions.specs.Image.{assign, store, conditional, loop, return, call, Block, done, sequence, Procedure}
use Rattle.definitions.specs.Image.{guarded, procedure_at}
use Rattle.definitions.specs.Labels.{is_constant, constant_value}
use Rattle.definitions.specs.Compiling.{masked, under, one, compiled_return, compiled_call, compiled_statement}
use Rattle.definitions.specs.Compiling.{compiled_block}
use Rattle.definitions.specs.Running.{Trace, Body, value, evaluate, evaluate_all, Outcome, next, back, Given, gave, Callee}
use Rattle.definitions.specs.Running.{passes, received, run_statement, run_block}
use Rattle.preservation.specs.Relations.{SafeValue, sound, Safe, fine, safe_bind, safe_within, safe_go, safe_map}
use Rattle.preservation.specs.Relations.{emitted}
use Rattle.preservation.specs.Contexts.{rc_rises, rc_rises_block}
use Rattle.preservation.specs.Evaluations.{constant_value_lem, index_value, safe_index, short_array, safe_value}
use Rattle.preservation.specs.Evaluations.{safe_values}
use Rattle.preservation.specs.Layouts.{Layout, Scope, act_at, operand, operands, temporary_at, rc_after_at}
use Rattle.preservation.specs.Layouts.{rc_after_block_at, secret_at, slot}
use Rattle.preservation.specs.Rules.{ExpressionRules, assign_value, store_value, store_bounded, if_condition}
use Rattle.preservation.specs.Rules.{loop_constants, return_value, call_labels, call_guarded, call_count}
use Rattle.preservation.specs.Positions.{code, codes, StatementAt, BlockAt, widened, entered, temporary_free}
use Rattle.preservation.specs.Positions.{first_statement, rest_block, secret_then, secret_else, public_then}
use Rattle.preservation.specs.Positions.{public_else, loop_block, loop_allocation}
use Rattle.preservation.specs.Runs.{Next, onward, safe_one, safe_step, safe_followed, safe_assign}
use Rattle.preservation.specs.Runs.{safe_conditional, safe_loop, safe_passes}
use Rattle.preservation.specs.Acts.{off_secret, off_act, off_select, off_under, Unchanged, OffFrame, off_still}
use Rattle.preservation.specs.Acts.{off_rises, off_arm_lem, narrowed, entered_in_use, entered_off, pass_within}
use Rattle.preservation.specs.Acts.{unchanged_refl, unchanged_trans, unchanged_free, unchanged_same}
use Rattle.preservation.specs.Acts.{code_if_secret, code_if_public}

-- a procedure that leaves the cells as they were
pub data Unmoved (cs : List ℕ) : Given → Type 0 where
  unmoved : {v : ℕ} → Unmoved cs (gave v cs)

-- guarded procedures, called with a guard of 0
abbrev pub InactiveCallee : List Procedure → {U : Type 0} → Callee U → Type 0
InactiveCallee ps {U} K = (f : ℕ) (ws : List ℕ) → guarded (procedure_at ps f) ≡ true → length ws ≡ (procedure_at ps f).parameters
    → (z : ℕ) (t : U) (cs : List ℕ) → Safe (Unmoved cs) (K f (ws ++ (0 ∷ [])) z t cs)

module _ (L : Layout) {U : Type 0} (D : Trace U) (budget : ℕ) (K : Callee U) (kq : InactiveCallee L.procedures K) where
  -- how a block of the code is run
  abbrev target : Block → Body U
  target b = λ z t vs cs. run_block D budget L.arrays K b z t vs cs

  abbrev pub Inactive : Statement → Type 0
  Inactive s = (l : ℕ) (S : Scope) (pc : Bool) (arm : ℕ) (rc : Bool) (k : ℕ) → StatementAt L S pc arm rc k l s
      → (z : ℕ) (t : U) (vs cs : List ℕ) → OffFrame L S pc arm rc vs
      → Safe (Next (Unchanged L S vs) cs) (target (code L s pc arm rc k) z t vs cs)

  abbrev pub InactiveBlock : Block → Type 0
  InactiveBlock b = (S : Scope) (pc : Bool) (arm : ℕ) (rc : Bool) (k : ℕ) → BlockAt L S pc arm rc k b
      → (z : ℕ) (t : U) (vs cs : List ℕ) → OffFrame L S pc arm rc vs
      → Safe (Next (Unchanged L S vs) cs) (target (codes L b pc arm rc k) z t vs cs)

  -- an expression of a place where the act is 0
  inactive_value : {marks : List ℕ} {S : Scope} {pc : Bool} {arm : ℕ} {rc : Bool} {vs : List ℕ} {e : Expression}
      → ExpressionRules L marks S.bounds (pc || rc) e → OffFrame L S pc arm rc vs → (cs : List ℕ) (t : U) → SafeValue (λ (_ : ℕ). Unit {0}) (evaluate D L.arrays (operand L e) vs cs t)
  inactive_value {S = S} {vs = vs} {e} g c cs t =
      safe_value D L.types L.arrays S.bounds L.first vs cs c.bounded e (rw (off_secret c.off) at g.labels) t

  old_value : (x : ℕ) (vs cs : List ℕ) (t : U) → SafeValue (λ v. v ≡ get_or vs x 0) (evaluate D L.arrays (variable 0 x) vs cs t)
  unfolding evaluate
  old_value x vs cs t = sound refl

  pub inactive_assign : (x : ℕ) (e : Expression) → Inactive (assign x e)
  unfolding compiled_statement masked
  inactive_assign x e l S pc arm rc k h z t vs cs c =
      rw (off_secret c.off)
      (safe_one D budget L.arrays K (assign (slot L x) (select 0 (act_at L pc arm rc) (operand L e) (variable 0 (slot L x)))) z t vs cs λ y.
      safe_assign D budget L.arrays K (slot L x) _ y t vs cs
      (off_select D L.arrays c.off cs (operand L e) (variable 0 (slot L x)) (get_or vs (slot L x) 0)
      (inactive_value (assign_value h.rules) c cs) (old_value (slot L x) vs cs) t)
      λ v r. unchanged_same vs (slot L x) v c.size r)

  pub inactive_store : (a : ℕ) (i e : Expression) → Inactive (store a i e)
  unfolding compiled_statement masked run_statement
  inactive_store a i e l S pc arm rc k h z t vs cs c =
      rw (off_secret c.off)
      (safe_one D budget L.arrays K (store a (operand L i) (select 0 (act_at L pc arm rc) (operand L e) (cell 0 a (operand L i)))) z t vs cs λ y.
      rw (j.1 t)
      (safe_within y (safe_index D L.arrays L.first vs cs a 0 j.0 j.2 t) λ n u q.
      safe_within y (off_select D L.arrays c.off cs (operand L e) (cell 0 a (operand L i)) (get_or cs (base_of L.arrays a + j.0) 0) (inactive_value (store_value h.rules) c cs) old u) λ w x r.
      rw (q, r, set-get_or cs (base_of L.arrays a + j.0) 0) (fine (onward (unchanged_refl c.size)))))
    where
      j : (v : ℕ) × ((t : U) → evaluate D L.arrays (operand L i) vs cs t ≡ value v t) × (v < array_length (get_or L.arrays a 0))
      j = index_value D L.arrays L.first vs cs S.bounds c.bounded (array_length (get_or L.arrays a 0)) (short_array (get_or L.arrays a 0)) i (store_bounded h.rules (off_secret c.off))

      old : (t : U) → SafeValue (λ v. v ≡ get_or cs (base_of L.arrays a + j.0) 0) (evaluate D L.arrays (cell 0 a (operand L i)) vs cs t)
      old t = unfold evaluate in rw (j.1 t) (safe_bind (safe_index D L.arrays L.first vs cs a 0 j.0 j.2 t) λ n u q. sound (rw q refl))

  pub inactive_return : (e : Expression) → Inactive (return e)
  unfolding compiled_statement compiled_return evaluate
  inactive_return e l S pc arm rc k h z t vs cs c =
      rw (off_secret c.off)
      (safe_step D budget L.arrays K (assign L.rv (select 0 (act_at L pc arm rc) (operand L e) (variable 0 L.rv))) _ z t vs cs cs
      (λ y. safe_assign D budget L.arrays K L.rv _ y t vs cs
      (off_select D L.arrays c.off cs (operand L e) (variable 0 L.rv) (get_or vs L.rv 0) (inactive_value (return_value h.rules) c cs) (old_value L.rv vs cs) t)
      λ v r. unchanged_same vs L.rv v c.size r)
      λ y u us n. safe_one D budget L.arrays K (assign (L.rv + 1) (select 0 (act_at L pc arm rc) (boolean 0 0) (variable 0 (L.rv + 1)))) y u us cs λ w.
      safe_assign D budget L.arrays K (L.rv + 1) _ w u us cs
      (off_select D L.arrays (off_still h.allocation c n).off cs (boolean 0 0) (variable 0 (L.rv + 1)) (get_or us (L.rv + 1) 0) (λ x. sound tt) (old_value (L.rv + 1) us cs) u)
      λ v r. unchanged_trans n (unchanged_same us (L.rv + 1) v n.size r))

  -- a call's result goes to a temporary
  inactive_received : {S : Scope} (k : ℕ) (vs cs : List ℕ) → length vs ≡ 255 → S.limit ≤ k → (g : Given) (z : ℕ) (t : U) → Unmoved cs g
      → Safe (Next (Unchanged L S vs) cs) (received k vs g z t)
  unfolding received
  inactive_received k vs cs s f (gave v _) z t unmoved = fine (onward (unchanged_free vs k v s f))

  pub inactive_call : (f x : ℕ) (es : List Expression) → Inactive (call f x es)
  unfolding compiled_statement compiled_call run_statement
  inactive_call f x es l S pc arm rc k h z t vs cs c =
      rw (off_secret c.off)
      (safe_step D budget L.arrays K (call f (temporary_at L f) (operands L es ++ (act_at L pc arm rc ∷ [])))
      (one (assign (slot L x) (select 0 (act_at L pc arm rc) (variable 0 (temporary_at L f)) (variable 0 (slot L x))))) z t vs cs cs
      (λ y. safe_within y (safe_values D L.types L.arrays S.bounds L.first vs cs c.bounded (procedure_at L.procedures f).types 0 es
      (rw (off_secret c.off) at (call_labels h.rules)) (act_at L pc arm rc ∷ []) (0 ∷ []) last t) λ ws u r.
      safe_within y (emitted D 7 0 f u) λ d w _.
      rw r.1 (safe_go (kq f r.0 (call_guarded h.rules (off_secret c.off)) (r.2 ∙ call_count h.rules) y w cs)
      λ g n v m. inactive_received (temporary_at L f) vs cs c.size (temporary_free h.allocation f) g n v m))
      λ y u us n. safe_one D budget L.arrays K (assign (slot L x) (select 0 (act_at L pc arm rc) (variable 0 (temporary_at L f)) (variable 0 (slot L x))))
      y u us cs λ w.
      safe_assign D budget L.arrays K (slot L x) _ w u us cs
      (off_select D L.arrays (off_still h.allocation c n).off cs (variable 0 (temporary_at L f)) (variable 0 (slot L x)) (get_or us (slot L x) 0)
      (λ t. any us t) (old_value (slot L x) us cs) u)
      λ v r. unchanged_trans n (unchanged_same us (slot L x) v n.size r))
    where
      last : (t : U) → evaluate_all D L.arrays (act_at L pc arm rc ∷ []) vs cs t ≡ value (0 ∷ []) t
      last t = unfold evaluate_all in rw (off_act D L.arrays c.off cs t) refl

      any : (us : List ℕ) (t : U) → SafeValue (λ (_ : ℕ). Unit {0}) (evaluate D L.arrays (variable 0 (temporary_at L f)) us cs t)
      any us t = unfold evaluate in sound tt

  pub inactive_if_secret : (c : Expression) (a b : Block) → InactiveBlock a → InactiveBlock b → secret_at L c ≡ true → Inactive (conditional c a b)
  inactive_if_secret c a b qa qb e l S pc arm rc k h z t vs cs o =
      rw (code_if_secret L pc arm rc k c a b e, off_secret o.off)
      (safe_step D budget L.arrays K {P = λ us. Unchanged L S vs us × (get_or us k 0 ≡ 0)} (assign k (under true (act_at L pc arm rc) (operand L c))) _ z t vs cs cs
      (λ y. safe_assign D budget L.arrays K k _ y t vs cs (off_under D L.arrays o.off cs (operand L c) (inactive_value (if_condition h.rules) o cs) t)
      λ v r. (unchanged_free vs k v o.size h.allocation.free, rw r (get_or-set_same vs k 0 0 (let i = o.size in let j = room in omega arith))))
      λ y u us n. safe_step D budget L.arrays K {P = λ ws. Unchanged L S vs ws × (get_or ws k 0 ≡ 0) × (get_or ws (k + 1) 0 ≡ 0)} (assign (k + 1) (under true (act_at L pc arm rc) (unary 0 0 (variable 0 k)))) _ y u us cs cs
      (λ w. safe_assign D budget L.arrays K (k + 1) _ w u us cs (off_under D L.arrays (off_still h.allocation o n.0).off cs (unary 0 0 (variable 0 k)) (negation us) u)
      λ v r. (
        unchanged_trans n.0 (unchanged_free us (k + 1) v n.0.size (let f = h.allocation.free in omega arith)),
        get_or-set_other us (k + 1) k v 0 (λ i. absurd (omega arith)) ∙ n.1,
        rw r (get_or-set_same us (k + 1) 0 0 (let i = n.0.size in let j = room in omega arith)),
      ))
      λ w x ws m. safe_followed D budget L.arrays K (codes L a true k rc (k + 2)) (codes L b true (k + 1) rc (k + 2)) w x ws cs cs
      (qa (widened S (k + 2)) true k rc (k + 2) (secret_then h e) w x ws cs (off_arm_lem (off_still h.allocation o m.0) k (k + 2) m.1))
      λ y' u' xs p. safe_map (λ q. finish_arms ws xs m.0 p q)
      (qb (widened S (k + 2)) true (k + 1) rc (k + 2) (secret_else h e) y' u' xs cs
      (off_still (secret_else h e).allocation (off_arm_lem (off_still h.allocation o m.0) (k + 1) (k + 2) m.2) p)))
    where
      room : k + 2 ≤ 255
      room = let r = (secret_then h e).allocation.room in omega arith

      negation : (us : List ℕ) (t : U) → SafeValue (λ (_ : ℕ). Unit {0}) (evaluate D L.arrays (unary 0 0 (variable 0 k)) us cs t)
      negation us t = unfold evaluate in sound tt

      finish_arms : (ws xs : List ℕ) → Unchanged L S vs ws → Unchanged L (widened S (k + 2)) ws xs → (q : Outcome) → Next (Unchanged L (widened S (k + 2)) xs) cs q → Next (Unchanged L S vs) cs q
      finish_arms ws xs m p (next _ _) (onward q) = onward (unchanged_trans m (narrowed (let f = h.allocation.free in omega arith) (unchanged_trans p q)))
      finish_arms ws xs m p (back _ _) h = elim h [ ]

  pub inactive_if_public : (c : Expression) (a b : Block) → InactiveBlock a → InactiveBlock b → secret_at L c ≡ false → Inactive (conditional c a b)
  inactive_if_public c a b qa qb e l S pc arm rc k h z t vs cs o =
      rw (code_if_public L pc arm rc k c a b e)
      (safe_one D budget L.arrays K (conditional (operand L c) (codes L a pc arm rc k) (codes L b pc arm rc k)) z t vs cs λ y.
      safe_conditional D budget L.arrays K (operand L c) (codes L a pc arm rc k) (codes L b pc arm rc k) y t vs cs
      (inactive_value (if_condition h.rules) o cs t)
      (λ w u. qa S pc arm rc k (public_then h e) w u vs cs o)
      (λ w u. qb S pc arm rc k (public_else h e) w u vs cs o))

  pub inactive_if : (c : Expression) (a b : Block) → InactiveBlock a → InactiveBlock b → Inactive (conditional c a b)
  inactive_if c a b qa qb = go (secret_at L c) refl
    where
      go : (s : Bool) → secret_at L c ≡ s → Inactive (conditional c a b)
      go true e = inactive_if_secret c a b qa qb e
      go false e = inactive_if_public c a b qa qb e

  -- the passes of a for, from i up to a bound
  pub inactive_passes : (x : ℕ) (f g : Expression) (b : Block) → InactiveBlock b → (l m : ℕ) (S : Scope) (pc : Bool) (arm : ℕ) (rc : Bool) (k : ℕ) → StatementAt L S pc arm rc k l (loop x f g b)
      → (from to : ℕ) → (is_constant f ≡ true → from ≡ constant_value f) → (is_constant g ≡ true → to ≡ constant_value g) → (n i : ℕ) → from ≤ i → n ≡ to - i → (z : ℕ) (t : U) (vs cs : List ℕ)
      → OffFrame L S pc arm (rc_after_block_at L pc rc b) vs
      → Safe (Next (Unchanged L S vs) cs) (passes budget m (slot L x) (λ y u us ds. target (codes L b pc arm (rc_after_block_at L pc rc b) k) y u us ds) n i z t vs cs)
  inactive_passes x f g b qb l m S pc arm rc k h from to p q n i a e z t vs cs o =
      safe_passes budget m (slot L x) (λ y u us ds. target (codes L b pc arm (rc_after_block_at L pc rc b) k) y u us ds) from to cs
      (λ j d u y w us r. safe_map (λ s. leave j us r s)
      (qb (entered S x f g) pc arm (rc_after_block_at L pc rc b) k (loop_block h) y w (set us (slot L x) j) cs
      (entered_off h (off_after us r) j (λ s. pass_within h from to p q j d u s))))
      n i a e z t vs (unchanged_refl o.size)
    where
      off_after : (us : List ℕ) → Unchanged L S vs us → OffFrame L S pc arm (rc_after_block_at L pc rc b) us
      off_after us p = off_still (loop_allocation h) o p

      leave : (j : ℕ) (us : List ℕ) → Unchanged L S vs us → (r : Outcome) → Next (Unchanged L (entered S x f g) (set us (slot L x) j)) cs r → Next (Unchanged L S vs) cs r
      leave j us p (next _ _) (onward u) =
          onward (unchanged_trans p (record { size = u.size; keeps = λ y d. let d' = entered_in_use h y d in u.keeps y d'.1 ∙ get_or-set_other us (slot L x) y j 0 d'.0 }))
      leave j us p (back _ _) h = elim h [ ]

  pub inactive_loop : (x : ℕ) (f g : Expression) (b : Block) → InactiveBlock b → Inactive (loop x f g b)
  unfolding compiled_statement
  inactive_loop x f g b qb l S pc arm rc k h z t vs cs o =
      let c = loop_constants h.rules (off_secret o.off) in
      safe_one D budget L.arrays K (loop (slot L x) (operand L f) (operand L g) (codes L b pc arm (rc_after_block_at L pc rc b) k)) z t vs cs λ y.
      safe_loop D budget L.arrays K (slot L x) (operand L f) (operand L g) (codes L b pc arm (rc_after_block_at L pc rc b) k) (constant_value f) (constant_value g) y t vs cs
      (constant_value_lem D L.arrays L.first vs cs f c.0) (constant_value_lem D L.arrays L.first vs cs g c.1)
      λ w u. inactive_passes x f g b qb l 0 S pc arm rc k h (constant_value f) (constant_value g) (λ _. refl) (λ _. refl) (constant_value g - constant_value f) (constant_value f) (omega arith) refl w u vs cs
      (off_rises o (λ q. rc_rises_block L.types L.arrays b pc rc q))

  pub inactive_done : InactiveBlock done
  unfolding compiled_block run_block
  inactive_done S pc arm rc k h z t vs cs o = fine (onward (unchanged_refl o.size))

  pub inactive_step : (l : ℕ) (s : Statement) (b : Block) → Inactive s → InactiveBlock b → InactiveBlock (sequence l s b)
  unfolding compiled_block
  inactive_step l s b qs qb S pc arm rc k h z t vs cs o =
      safe_followed D budget L.arrays K (code L s pc arm rc k) _ z t vs cs cs (qs l S pc arm rc k (first_statement h) z t vs cs o)
      λ y u us n. safe_map (λ r. on_from us n r)
      (qb S pc arm (rc_after_at L pc rc s) _ (rest_block h) y u us cs
      (off_rises (off_still h.allocation o n) (λ q. rc_rises L.types L.arrays s pc rc q)))
    where
      on_from : (us : List ℕ) → Unchanged L S vs us → (r : Outcome) → Next (Unchanged L S us) cs r → Next (Unchanged L S vs) cs r
      on_from us n (next _ _) (onward u) = onward (unchanged_trans n u)
      on_from us n (back _ _) h = elim h [ ]

  mutual
    pub inactive : (s : Statement) → Inactive s
    inactive (assign x e) = inactive_assign x e
    inactive (store a i e) = inactive_store a i e
    inactive (conditional c a b) = inactive_if c a b (inactive_block a) (inactive_block b)
    inactive (loop x f g b) = inactive_loop x f g b (inactive_block b)
    inactive (return e) = inactive_return e
    inactive (call f x es) = inactive_call f x es

    pub inactive_block : (b : Block) → InactiveBlock b
    inactive_block done = inactive_done
    inactive_block (sequence l s b) = inactive_step l s b (inactive s) (inactive_block b)
