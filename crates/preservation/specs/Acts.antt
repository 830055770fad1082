-- The act of a place: what it evaluates to, and that a write under an act of 0 puts back what was there. Assumes nothing.
use Rattle.std.specs.Prelude.{◌≡◌, ◌≢◌, Bool, true, false, ◌&&◌, ◌||◌, List, ℕ, ◌+◌, ◌-◌, ◌<◌, ◌≤◌, eqb, length, get_or, set}
use Rattle.std.proofs.Math.Path.{refl}
use Rattle.std.proofs.Common.{◌∙◌, arith, length-set, get_or-set_same, get_or-set_other, eqb-true, ne_eqb}
use Rattle.std.proofs.lemmas.Bool.{false≢true, eqb-false}
use Rattle.std.proofs.lemmas.List.{set-get_or}
use Rattle.definitions.specs.Choice.{pick}
use Rattle.definitions.specs.declared.ConstantLoop.{ConstantLoop}
use Rattle.definitions.specs.Arithmetic.{logical_and, truth}
use Rattle.definitions.specs.Operators.{apply_binary}
use Rattle.definitions.specs.Image.{Expression, variable, select, conditional, loop, unary, assign, Block, sequence}
use Rattle.definitions.specs.Sorts.{outside, inside}
use Rattle.definitions.specs.Labels.{is_constant, constant_value, constant_loop, unbounded, loop_of, bounds_inside}
use Rattle.definitions.specs.Compiling.{act, under, followed_by, one, compiled_if, compiled_statement}
use Rattle.definitions.specs.Running.{Trace, Evaluated, value, evaluate, operated}
use Rattle.laws.specs.Tests.{or_left, or_right}
use Rattle.preservation.specs.Relations.{SafeValue, sound, SimValue, safe_bind, sim_through}
use Rattle.preservation.specs.Evaluations.{MayBound, Within, Bounded}
use Rattle.preservation.specs.Layouts.{Layout, Scope, InUse, Reserved, Allocation, renamed_injective, act_at}
use Rattle.preservation.specs.Layouts.{operand, rc_after_block_at, secret_at, slot}
use Rattle.preservation.specs.Rules.{loop_variable}
use Rattle.preservation.specs.Positions.{code, codes, StatementAt, widened, entered}

-- by pc and rc: the value of the arm's variable, that of LIVE, or their conjunction
abbrev pub act_of : Bool → Bool → ℕ → ℕ → ℕ
act_of true true a b = logical_and a b
act_of true false a b = a
act_of false rc a b = b

pub act_value : {T : Type 0} (D : Trace T) (arrays : List ℕ) (pc : Bool) (arm : ℕ) (rc : Bool) (live : ℕ) (vs cs : List ℕ) (t : T)
    → evaluate D arrays (act pc arm rc live) vs cs t ≡ value (act_of pc rc (get_or vs arm 0) (get_or vs live 0)) t
unfolding act evaluate operated apply_binary
act_value D arrays true arm true live vs cs t = refl
act_value D arrays true arm false live vs cs t = refl
act_value D arrays false arm rc live vs cs t = refl

-- the act is 0: by the arm's variable or by LIVE
pub data Off (L : Layout) (pc : Bool) (arm : ℕ) (rc : Bool) (vs : List ℕ) : Type 0 where
  off_arm : pc ≡ true → get_or vs arm 0 ≡ 0 → Off L pc arm rc vs
  off_live : rc ≡ true → get_or vs (L.rv + 1) 0 ≡ 0 → Off L pc arm rc vs

pub off_secret : {L : Layout} {pc : Bool} {arm : ℕ} {rc : Bool} {vs : List ℕ} → Off L pc arm rc vs → (pc || rc) ≡ true
off_secret {pc = pc} {rc = rc} (off_arm p z) = or_left pc rc p
off_secret {pc = pc} {rc = rc} (off_live p z) = or_right pc rc p

act_zero_arm : (rc : Bool) (b : ℕ) → ◌≡◌ {A = ℕ} (act_of true rc 0 b) 0
act_zero_arm true b = refl
act_zero_arm false b = refl

act_zero_live : (pc : Bool) (a : ℕ) → ◌≡◌ {A = ℕ} (act_of pc true a 0) 0
act_zero_live true a = go (eqb a 0)
  where
    go : (b : Bool) → ◌≡◌ {A = ℕ} (pick b 0 (truth 0)) 0
    go true = refl
    go false = refl
act_zero_live false a = refl

pub off_act : {T : Type 0} (D : Trace T) (arrays : List ℕ) {L : Layout} {pc : Bool} {arm : ℕ} {rc : Bool} {vs : List ℕ} → Off L pc arm rc vs → (cs : List ℕ) (t : T)
    → evaluate D arrays (act_at L pc arm rc) vs cs t ≡ value 0 t
off_act D arrays {L} {pc} {arm} {rc} {vs} (off_arm p z) cs t =
    rw (act_value D arrays pc arm rc (L.rv + 1) vs cs t, p, z, act_zero_arm rc (get_or vs (L.rv + 1) 0)) refl
off_act D arrays {L} {pc} {arm} {rc} {vs} (off_live p z) cs t =
    rw (act_value D arrays pc arm rc (L.rv + 1) vs cs t, p, z, act_zero_live pc (get_or vs arm 0)) refl

-- under an act of 0 a select gives the old value
pub off_select : {T : Type 0} (D : Trace T) (arrays : List ℕ) {L : Layout} {pc : Bool} {arm : ℕ} {rc : Bool} {vs : List ℕ} → Off L pc arm rc vs → (cs : List ℕ)
    → (e old : Expression) (o : ℕ) → ((t : T) → SafeValue (λ (_ : ℕ). Unit {0}) (evaluate D arrays e vs cs t)) → ((t : T) → SafeValue (λ v. v ≡ o) (evaluate D arrays old vs cs t))
    → (t : T) → SafeValue (λ v. v ≡ o) (evaluate D arrays (select 0 (act_at L pc arm rc) e old) vs cs t)
unfolding evaluate
off_select D arrays f cs e old o p q t = rw (off_act D arrays f cs t) (safe_bind (p t) λ v u _. safe_bind (q u) λ w y r. sound r)

-- the act is not 0
abbrev pub On : Layout → Bool → ℕ → Bool → List ℕ → Type 0
On L pc arm rc vs = (pc ≡ true → get_or vs arm 0 ≢ 0) × (rc ≡ true → get_or vs (L.rv + 1) 0 ≢ 0)

pub act_on : (pc rc : Bool) (a b : ℕ) → (pc || rc) ≡ true → (pc ≡ true → a ≢ 0) → (rc ≡ true → b ≢ 0) → eqb (act_of pc rc a b) 0 ≡ false
act_on true true a b s p q = rw (ne_eqb a 0 (p refl), ne_eqb b 0 (q refl)) refl
act_on true false a b s p q = ne_eqb a 0 (p refl)
act_on false true a b s p q = ne_eqb b 0 (q refl)
act_on false false a b s p q = absurd (false≢true s)

-- under such an act a select gives the new value
module _ {T U : Type 0} (D : Trace U) (arrays : List ℕ) (L : Layout) (pc : Bool) (arm : ℕ) (rc : Bool) (vs : List ℕ) (o : On L pc arm rc vs) (s : (pc || rc) ≡ true) (cs : List ℕ) where
  pub on_select : {A : Type 0} {R : A → ℕ → Type 0} {x : Evaluated T A} (e old : Expression) (u : U) → SimValue R x (evaluate D arrays e vs cs u)
      → ((u : U) → SafeValue (λ (_ : ℕ). Unit {0}) (evaluate D arrays old vs cs u))
      → SimValue R x (evaluate D arrays (select 0 (act_at L pc arm rc) e old) vs cs u)
  unfolding evaluate
  on_select e old u h k =
      rw (act_value D arrays pc arm rc (L.rv + 1) vs cs u)
      (sim_through h λ b y. safe_bind (k y) λ w x _. rw (act_on pc rc (get_or vs arm 0) (get_or vs (L.rv + 1) 0) s o.0 o.1) (sound refl))

-- the same where the new value is known
pub on_select_value : {U : Type 0} (D : Trace U) (arrays : List ℕ) (L : Layout) (pc : Bool) (arm : ℕ) (rc : Bool) (vs : List ℕ) → On L pc arm rc vs → (pc || rc) ≡ true → (cs : List ℕ)
    → (e old : Expression) (v : ℕ) (u : U) → SafeValue (λ w. w ≡ v) (evaluate D arrays e vs cs u)
    → ((u : U) → SafeValue (λ (_ : ℕ). Unit {0}) (evaluate D arrays old vs cs u))
    → SafeValue (λ w. w ≡ v) (evaluate D arrays (select 0 (act_at L pc arm rc) e old) vs cs u)
unfolding evaluate
on_select_value D arrays L pc arm rc vs o s cs e old v u h k =
    rw (act_value D arrays pc arm rc (L.rv + 1) vs cs u)
    (safe_bind h λ b y q. safe_bind (k y) λ w x _. rw (act_on pc rc (get_or vs arm 0) (get_or vs (L.rv + 1) 0) s o.0 o.1) (sound q))

-- a truth is 0 where the number is
pub truth_zero : (v : ℕ) → eqb (truth v) 0 ≡ eqb v 0
truth_zero v = go (eqb v 0)
  where
    go : (b : Bool) → eqb (pick b 0 1) 0 ≡ b
    go true = refl
    go false = refl

-- under an act of 0 a conjunction with it is 0
pub off_under : {T : Type 0} (D : Trace T) (arrays : List ℕ) {L : Layout} {pc : Bool} {arm : ℕ} {rc : Bool} {vs : List ℕ} → Off L pc arm rc vs → (cs : List ℕ)
    → (e : Expression) → ((t : T) → SafeValue (λ (_ : ℕ). Unit {0}) (evaluate D arrays e vs cs t))
    → (t : T) → SafeValue (λ v. v ≡ 0) (evaluate D arrays (under true (act_at L pc arm rc) e) vs cs t)
unfolding under evaluate operated apply_binary
off_under D arrays f cs e p t = rw (off_act D arrays f cs t) (safe_bind (p t) λ v u _. sound refl)

-- the variables in use keep their values
pub record Unchanged (L : Layout) (S : Scope) (vs us : List ℕ) : Type 0 where
  pub size : length us ≡ 255
  pub keeps : (y : ℕ) → InUse L S y → get_or us y 0 ≡ get_or vs y 0

-- what holds of the compiled frame where the act is 0
pub record OffFrame (L : Layout) (S : Scope) (pc : Bool) (arm : ℕ) (rc : Bool) (vs : List ℕ) : Type 0 where
  pub size : length vs ≡ 255
  pub off : Off L pc arm rc vs
  pub bounded : Bounded S.bounds L.first vs

module _ {L : Layout} {S : Scope} {pc : Bool} {arm : ℕ} {rc : Bool} {k size : ℕ} {end : Bool} (h : Allocation L S pc arm rc k size end) where
  pub reserved_in_use : (y : ℕ) → Reserved L S.limit y → InUse L S y
  reserved_in_use y s = (s.0, λ x i e. absurd (s.1 x i e))

  pub variable_in_use : (x : ℕ) → x < length L.types → get_or S.marks x 0 ≢ outside → InUse L S (slot L x)
  variable_in_use x i m = ((let b = h.base in let g = h.low x i in omega arith), λ y j e. rw (renamed_injective L.first x y e) at m)

  pub live_in_use : L.defers ≡ true → InUse L S (L.rv + 1)
  live_in_use d = ((let g = h.returns d in omega arith), λ y j e. absurd (let g = h.low y j in omega arith))

  pub rv_in_use : L.defers ≡ true → InUse L S L.rv
  rv_in_use d = ((let g = h.returns d in omega arith), λ y j e. absurd (let g = h.low y j in omega arith))

  pub unchanged_bounded : {vs us : List ℕ} → Unchanged L S vs us → Bounded S.bounds L.first vs → Bounded S.bounds L.first us
  unchanged_bounded u b x q =
      let t = h.tied x q in
      rw (u.keeps (slot L x) (variable_in_use x t.0 (λ m. let i = t.1 in absurd (omega arith)))) (b x q)

  pub unchanged_off : {vs us : List ℕ} → Unchanged L S vs us → Off L pc arm rc vs → Off L pc arm rc us
  unchanged_off u (off_arm p z) = off_arm p (u.keeps arm (reserved_in_use arm (h.armed p)) ∙ z)
  unchanged_off u (off_live p z) = off_live p (u.keeps (L.rv + 1) (live_in_use (h.begins p)) ∙ z)

  pub off_still : {vs us : List ℕ} → OffFrame L S pc arm rc vs → Unchanged L S vs us → OffFrame L S pc arm rc us
  off_still c u = record { size = u.size; off = unchanged_off u c.off; bounded = unchanged_bounded u c.bounded }

pub unchanged_refl : {L : Layout} {S : Scope} {vs : List ℕ} → length vs ≡ 255 → Unchanged L S vs vs
unchanged_refl s = record { size = s; keeps = λ y _. refl }

pub unchanged_trans : {L : Layout} {S : Scope} {vs us ws : List ℕ} → Unchanged L S vs us → Unchanged L S us ws → Unchanged L S vs ws
unchanged_trans p q = record { size = q.size; keeps = λ y k. q.keeps y k ∙ p.keeps y k }

-- a variable that is not in use
pub unchanged_free : {L : Layout} {S : Scope} (vs : List ℕ) (k v : ℕ) → length vs ≡ 255 → S.limit ≤ k → Unchanged L S vs (set vs k v)
unchanged_free vs k v s f = record { size = length-set vs k v ∙ s; keeps = λ y n. get_or-set_other vs k y v 0 (λ e. let i = n.0 in absurd (omega arith)) }

-- a write of what was there
pub unchanged_same : {L : Layout} {S : Scope} (vs : List ℕ) (y v : ℕ) → length vs ≡ 255 → v ≡ get_or vs y 0 → Unchanged L S vs (set vs y v)
unchanged_same vs y v s e = rw (e, set-get_or vs y 0) (unchanged_refl s)

-- fewer variables are in use
pub narrowed : {L : Layout} {S : Scope} {limit : ℕ} {vs us : List ℕ} → S.limit ≤ limit → Unchanged L (widened S limit) vs us → Unchanged L S vs us
narrowed {S = S} {limit} f u = record { size = u.size; keeps = λ y d. u.keeps y ((let i = d.0 in omega arith), d.1) }

pub off_rises : {L : Layout} {S : Scope} {pc : Bool} {arm : ℕ} {rc rc' : Bool} {vs : List ℕ} → OffFrame L S pc arm rc vs → (rc ≡ true → rc' ≡ true) → OffFrame L S pc arm rc' vs
off_rises {L} {pc = pc} {arm} {rc} {rc'} {vs} c q = record { size = c.size; off = go c.off; bounded = c.bounded }
  where
    go : Off L pc arm rc vs → Off L pc arm rc' vs
    go (off_arm p z) = off_arm p z
    go (off_live p z) = off_live (q p) z

-- an arm of a secret if whose variable is 0
pub off_arm_lem : {L : Layout} {S : Scope} {pc : Bool} {arm : ℕ} {rc : Bool} {vs : List ℕ} → OffFrame L S pc arm rc vs → (new limit : ℕ) → get_or vs new 0 ≡ 0 → OffFrame L (widened S limit) true new rc vs
off_arm_lem c new limit z = record { size = c.size; off = off_arm refl z; bounded = c.bounded }

module _ {L : Layout} {S : Scope} {pc : Bool} {arm : ℕ} {rc : Bool} {k l x : ℕ} {f g : Expression} {b : Block} (h : StatementAt L S pc arm rc k l (loop x f g b)) where
  -- what is in use around a for is so in its block, and is not the for's variable
  pub entered_in_use : (y : ℕ) → InUse L S y → (y ≢ slot L x) × InUse L (entered S x f g) y
  entered_in_use y d =
      let i = loop_variable h.rules in
      (λ e. d.1 x i.0 e i.1, (d.0, λ x' j e. let n : x' ≢ x = (λ q. d.1 x i.0 (rw q at e) i.1) in rw (get_or-set_other S.marks x x' inside 0 n) (d.1 x' j e)))

  -- a pass is within the for's bounds
  pub pass_within : (from to : ℕ) → (is_constant f ≡ true → from ≡ constant_value f) → (is_constant g ≡ true → to ≡ constant_value g) → (i : ℕ) → from ≤ i → i < to
      → MayBound (get_or (bounds_inside S.bounds x f g) x unbounded) → Within (get_or (bounds_inside S.bounds x f g) x unbounded) i
  pass_within from to p q i a u =
      let j = (loop_variable h.rules).0 in
      let n = h.allocation.few in
      let m = h.allocation.bounds_size in
      rw (get_or-set_same S.bounds x (loop_of f g) unbounded (omega arith)) (go (is_constant f) (is_constant g) refl refl)
    where
      either : Bool → ConstantLoop
      either c = pick c (constant_loop (constant_value g - constant_value f) (constant_value g)) unbounded

      go : (c d : Bool) → is_constant f ≡ c → is_constant g ≡ d → MayBound (either (c && d)) → Within (either (c && d)) i
      go true true r e v = let m = p r in let n = q e in (omega arith, omega arith)
      go true false r e v = let l = v (omega arith) in absurd (omega arith)
      go false d r e v = let l = v (omega arith) in absurd (omega arith)

  pub entered_bounded : (us : List ℕ) → length us ≡ 255 → Bounded S.bounds L.first us → (i : ℕ)
      → (MayBound (get_or (bounds_inside S.bounds x f g) x unbounded) → Within (get_or (bounds_inside S.bounds x f g) x unbounded) i)
      → Bounded (bounds_inside S.bounds x f g) L.first (set us (slot L x) i)
  entered_bounded us s c i u y = go (eqb y x) refl
    where
      go : (t : Bool) → eqb y x ≡ t → MayBound (get_or (bounds_inside S.bounds x f g) y unbounded)
          → Within (get_or (bounds_inside S.bounds x f g) y unbounded) (get_or (set us (slot L x) i) (slot L y) 0)
      go true e =
          let j = h.allocation.low x (loop_variable h.rules).0 in
          let n = h.allocation.base in
          let m = h.allocation.free in
          let r = h.allocation.room in
          rw (eqb-true y x e, get_or-set_same us (slot L x) i 0 (omega arith)) u
      go false e =
          let n = eqb-false y x e in
          rw (
            get_or-set_other S.bounds x y (loop_of f g) unbounded n,
            get_or-set_other us (slot L x) (slot L y) i 0 (λ q. n (renamed_injective L.first y x q)),
          ) (c y)

  pub entered_off : {us : List ℕ} → OffFrame L S pc arm (rc_after_block_at L pc rc b) us → (i : ℕ)
      → (MayBound (get_or (bounds_inside S.bounds x f g) x unbounded) → Within (get_or (bounds_inside S.bounds x f g) x unbounded) i)
      → OffFrame L (entered S x f g) pc arm (rc_after_block_at L pc rc b) (set us (slot L x) i)
  entered_off {us} c i u =
      record { size = length-set us (slot L x) i ∙ c.size; off = go c.off; bounded = entered_bounded us c.size c.bounded i u }
    where
      go : Off L pc arm (rc_after_block_at L pc rc b) us → Off L pc arm (rc_after_block_at L pc rc b) (set us (slot L x) i)
      go (off_arm p z) = off_arm p (get_or-set_other us (slot L x) arm i 0 ((h.allocation.armed p).1 x (loop_variable h.rules).0) ∙ z)
      go (off_live p z) = off_live p (get_or-set_other us (slot L x) (L.rv + 1) i 0 (λ e. let j = h.allocation.low x (loop_variable h.rules).0 in absurd (omega arith)) ∙ z)

module _ (L : Layout) (pc : Bool) (arm : ℕ) (rc : Bool) (k : ℕ) (c : Expression) (a b : Block) where
  -- "T := condition, E := not T; under an act, T := act and condition, E := act and not T. The arms follow in line."
  pub code_if_secret : secret_at L c ≡ true
      → code L (conditional c a b) pc arm rc k
      ≡ sequence 0 (assign k (under (pc || rc) (act_at L pc arm rc) (operand L c)))
      (sequence 0 (assign (k + 1) (under (pc || rc) (act_at L pc arm rc) (unary 0 0 (variable 0 k))))
      (followed_by (codes L a true k rc (k + 2)) (codes L b true (k + 1) rc (k + 2))))
  unfolding compiled_statement compiled_if
  code_if_secret e = rw e refl

  pub code_if_public : secret_at L c ≡ false
      → code L (conditional c a b) pc arm rc k ≡ one (conditional (operand L c) (codes L a pc arm rc k) (codes L b pc arm rc k))
  unfolding compiled_statement compiled_if
  code_if_public e = rw e refl
