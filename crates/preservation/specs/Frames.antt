-- The source's frame beside the compiled one: while the source runs, once it has returned and the compiled run goes on, and how two runs
-- of a statement end. Assumes nothing.
use Rattle.std.specs.Prelude.{◌≡◌, refl, ◌≢◌, Bool, true, false, List, ℕ, ◌+◌, ◌<◌, ◌≤◌, eqb, length, get_or, set}
use Rattle.std.proofs.Common.{sym, ◌∙◌, arith, length-set, get_or-set_same, get_or-set_other, eqb-true}
use Rattle.std.proofs.lemmas.Bool.{eqb-false}
use Rattle.definitions.specs.Image.{Expression, Block, loop}
use Rattle.definitions.specs.Sorts.{ordinary, outside, inside}
use Rattle.definitions.specs.Labels.{unbounded, loop_of, bounds_inside}
use Rattle.definitions.specs.Running.{Outcome, next, back}
use Rattle.preservation.specs.Evaluations.{MayBound, Within, Bounded, Agree}
use Rattle.preservation.specs.Layouts.{Layout, Scope, Reserved, Allocation, renamed_injective, slot}
use Rattle.preservation.specs.Rules.{loop_variable}
use Rattle.preservation.specs.Positions.{StatementAt, widened, entered}
use Rattle.preservation.specs.Acts.{Unchanged, reserved_in_use, variable_in_use, live_in_use, rv_in_use}
use Rattle.preservation.specs.Acts.{unchanged_bounded, entered_bounded}

-- The source runs: its variables have their values in the compiled frame, and nothing has been returned. The guard and the pairs in use
-- have the values `val`.
pub record Live (L : Layout) (S : Scope) (val : ℕ → ℕ) (us vs : List ℕ) : Type 0 where
  pub source : length us ≡ 255
  pub size : length vs ≡ 255
  pub vars : Agree L.types S.marks L.first us vs
  pub bounded : Bounded S.bounds L.first vs
  pub reserved : (y : ℕ) → Reserved L S.limit y → get_or vs y 0 ≡ val y
  pub result : L.defers ≡ true → get_or vs L.rv 0 ≡ 0
  pub alive : L.defers ≡ true → get_or vs (L.rv + 1) 0 ≡ 1

-- The source has returned v: so says RV, and LIVE is 0.
pub record Deferred (L : Layout) (S : Scope) (val : ℕ → ℕ) (v : ℕ) (vs : List ℕ) : Type 0 where
  pub size : length vs ≡ 255
  pub bounded : Bounded S.bounds L.first vs
  pub reserved : (y : ℕ) → Reserved L S.limit y → get_or vs y 0 ≡ val y
  pub result : get_or vs L.rv 0 ≡ v
  pub ended : get_or vs (L.rv + 1) 0 ≡ 0

-- How a statement and its code end: both go on, both return, or the source returns and the code goes on; the last only with a secret rc.
pub data EndAlike (L : Layout) (S : Scope) (val : ℕ → ℕ) (end : Bool) : Outcome → Outcome → Type 0 where
  going : {us vs cs : List ℕ} → Live L S val us vs → EndAlike L S val end (next us cs) (next vs cs)
  quit : {v : ℕ} {cs : List ℕ} → EndAlike L S val end (back v cs) (back v cs)
  deferred : {v : ℕ} {vs cs : List ℕ} → end ≡ true → Deferred L S val v vs → EndAlike L S val end (back v cs) (next vs cs)

pub end_alike_rise : {L : Layout} {S : Scope} {val : ℕ → ℕ} {end end' : Bool} → (end ≡ true → end' ≡ true) → (o p : Outcome) → EndAlike L S val end o p → EndAlike L S val end' o p
end_alike_rise f (next _ _) (next _ _) (going h) = going h
end_alike_rise f (next _ _) (back _ _) h = elim h [ ]
end_alike_rise f (back _ _) (back _ _) quit = quit
end_alike_rise f (back _ _) (next _ _) (deferred e h) = deferred (f e) h

module _ {L : Layout} {S : Scope} {pc : Bool} {arm : ℕ} {rc : Bool} {k size : ℕ} {end : Bool} (h : Allocation L S pc arm rc k size end) where
  -- inactive code in between
  pub live_still : {val : ℕ → ℕ} {us vs ws : List ℕ} → Live L S val us vs → Unchanged L S vs ws → Live L S val us ws
  live_still m n =
      record {
        source = m.source;
        size = n.size;
        vars = λ x i j. n.keeps (slot L x) (variable_in_use h x i j) ∙ m.vars x i j;
        bounded = unchanged_bounded h n m.bounded;
        reserved = λ y s. n.keeps y (reserved_in_use h y s) ∙ m.reserved y s;
        result = λ d. n.keeps L.rv (rv_in_use h d) ∙ m.result d;
        alive = λ d. n.keeps (L.rv + 1) (live_in_use h d) ∙ m.alive d;
      }

  pub deferred_still : {val : ℕ → ℕ} {v : ℕ} {vs ws : List ℕ} → L.defers ≡ true → Deferred L S val v vs → Unchanged L S vs ws → Deferred L S val v ws
  deferred_still d m n =
      record {
        size = n.size;
        bounded = unchanged_bounded h n m.bounded;
        reserved = λ y s. n.keeps y (reserved_in_use h y s) ∙ m.reserved y s;
        result = n.keeps L.rv (rv_in_use h d) ∙ m.result;
        ended = n.keeps (L.rv + 1) (live_in_use h d) ∙ m.ended;
      }

  -- a variable that is not in use is written
  pub live_free : {val : ℕ → ℕ} {us vs : List ℕ} → Live L S val us vs → (j v : ℕ) → S.limit ≤ j → Live L S val us (set vs j v)
  live_free {vs = vs} m j v f =
      let b = h.base in
      record {
        source = m.source;
        size = length-set vs j v ∙ m.size;
        vars = λ x i n. get_or-set_other vs j (slot L x) v 0 (λ e. let q = h.low x i in absurd (omega arith)) ∙ m.vars x i n;
        bounded = λ x q. let t = (h.tied x q).0 in let g = h.low x t in rw (get_or-set_other vs j (slot L x) v 0 (λ e. absurd (omega arith))) (m.bounded x q);
        reserved = λ y s. get_or-set_other vs j y v 0 (λ e. let q = s.0 in absurd (omega arith)) ∙ m.reserved y s;
        result = λ d. get_or-set_other vs j L.rv v 0 (λ e. let q = h.returns d in absurd (omega arith)) ∙ m.result d;
        alive = λ d. get_or-set_other vs j (L.rv + 1) v 0 (λ e. let q = h.returns d in absurd (omega arith)) ∙ m.alive d;
      }

  -- a variable of the source is assigned
  pub live_assign : {val : ℕ → ℕ} {us vs : List ℕ} → Live L S val us vs → (x v : ℕ) → (x < length L.types) × (get_or S.marks x 0 ≡ ordinary)
      → Live L S val (set us x v) (set vs (slot L x) v)
  live_assign {val} {us} {vs} m x v i =
      record {
        source = length-set us x v ∙ m.source;
        size = length-set vs (slot L x) v ∙ m.size;
        vars = λ y j n. go y j n (eqb y x) refl;
        bounded = λ y q. let t = h.tied y q in
            let n : y ≢ x = (λ e. let a : get_or S.marks x 0 ≡ inside = rw e at t.1 in let b = i.1 in absurd (omega arith)) in
            rw (get_or-set_other vs (slot L x) (slot L y) v 0 (λ e. n (renamed_injective L.first y x e))) (m.bounded y q);
        reserved = λ y s. get_or-set_other vs (slot L x) y v 0 (s.1 x i.0) ∙ m.reserved y s;
        result = λ d. get_or-set_other vs (slot L x) L.rv v 0 (λ e. let q = h.low x i.0 in absurd (omega arith)) ∙ m.result d;
        alive = λ d. get_or-set_other vs (slot L x) (L.rv + 1) v 0 (λ e. let q = h.low x i.0 in absurd (omega arith)) ∙ m.alive d;
      }
    where
      go : (y : ℕ) → y < length L.types → get_or S.marks y 0 ≢ outside → (t : Bool) → eqb y x ≡ t
          → get_or (set vs (slot L x) v) (slot L y) 0 ≡ get_or (set us x v) y 0
      go y j n true e =
          let a = m.source in
          let b = m.size in
          let c = h.few in
          let d = i.0 in
          let f = h.low x i.0 in
          let g = h.base in
          let q = h.free in
          let r = h.room in
          rw (eqb-true y x e, get_or-set_same vs (slot L x) v 0 (omega arith), get_or-set_same us x v 0 (omega arith)) refl
      go y j n false e =
          let q = eqb-false y x e in
          get_or-set_other vs (slot L x) (slot L y) v 0 (λ f. q (renamed_injective L.first y x f)) ∙ m.vars y j n ∙ sym (get_or-set_other us x y v 0 q)

  -- RV and LIVE are written
  pub live_return : {val : ℕ → ℕ} {us vs : List ℕ} → L.defers ≡ true → Live L S val us vs → (v : ℕ) → Deferred L S val v (set (set vs L.rv v) (L.rv + 1) 0)
  live_return {val} {us} {vs} d m v =
      let a = m.size in
      let b = h.returns d in
      let f = h.free in
      let r = h.room in
      let s : length (set vs L.rv v) ≡ 255 = length-set vs L.rv v ∙ m.size in
      record {
        size = length-set (set vs L.rv v) (L.rv + 1) 0 ∙ s;
        bounded = λ x q. let t = h.low x (h.tied x q).0 in
            rw (
              get_or-set_other (set vs L.rv v) (L.rv + 1) (slot L x) 0 0 (λ e. absurd (omega arith)),
              get_or-set_other vs L.rv (slot L x) v 0 (λ e. absurd (omega arith)),
            ) (m.bounded x q);
        reserved = λ y z. get_or-set_other (set vs L.rv v) (L.rv + 1) y 0 0 (z.3 d) ∙ get_or-set_other vs L.rv y v 0 (z.2 d) ∙ m.reserved y z;
        result = get_or-set_other (set vs L.rv v) (L.rv + 1) L.rv 0 0 (λ e. absurd (omega arith)) ∙ get_or-set_same vs L.rv v 0 (omega arith);
        ended = get_or-set_same (set vs L.rv v) (L.rv + 1) 0 0 (omega arith);
      }

-- more variables are in use, with the values that they have
pub live_widen : {L : Layout} {S : Scope} {val : ℕ → ℕ} {us vs : List ℕ} → Live L S val us vs → (limit : ℕ) → Live L (widened S limit) (λ y. get_or vs y 0) us vs
live_widen m limit = record { source = m.source; size = m.size; vars = m.vars; bounded = m.bounded; reserved = λ y s. refl; result = m.result; alive = m.alive }

pub reserved_widen : (L : Layout) (m n : ℕ) → m ≤ n → (y : ℕ) → Reserved L m y → Reserved L n y
reserved_widen L m n f y s = ((let q = s.0 in omega arith), s.1, s.2, s.3)

-- and fewer again
module _ {L : Layout} {S : Scope} {val now : ℕ → ℕ} {limit : ℕ} (f : S.limit ≤ limit) (same : (y : ℕ) → Reserved L S.limit y → now y ≡ val y) where
  pub live_narrow : {us vs : List ℕ} → Live L (widened S limit) now us vs → Live L S val us vs
  live_narrow m = record { source = m.source; size = m.size; vars = m.vars; bounded = m.bounded; reserved = λ y s. m.reserved y (reserved_widen L S.limit limit f y s) ∙ same y s; result = m.result; alive = m.alive }

  pub deferred_narrow : {v : ℕ} {vs : List ℕ} → Deferred L (widened S limit) now v vs → Deferred L S val v vs
  deferred_narrow m = record { size = m.size; bounded = m.bounded; reserved = λ y s. m.reserved y (reserved_widen L S.limit limit f y s) ∙ same y s; result = m.result; ended = m.ended }

-- a for's block: entered with its variable at i, and left
module _ {L : Layout} {S : Scope} {pc : Bool} {arm : ℕ} {rc : Bool} {k l x : ℕ} {f g : Expression} {b : Block} (h : StatementAt L S pc arm rc k l (loop x f g b)) where
  pub live_enter : {val : ℕ → ℕ} {us vs : List ℕ} → Live L S val us vs → (i : ℕ)
      → (MayBound (get_or (bounds_inside S.bounds x f g) x unbounded) → Within (get_or (bounds_inside S.bounds x f g) x unbounded) i)
      → Live L (entered S x f g) val (set us x i) (set vs (slot L x) i)
  live_enter {val} {us} {vs} m i u =
      let j = loop_variable h.rules in
      record {
        source = length-set us x i ∙ m.source;
        size = length-set vs (slot L x) i ∙ m.size;
        vars = λ y p n. go y p (eqb y x) refl n;
        bounded = entered_bounded h vs m.size m.bounded i u;
        reserved = λ y s. get_or-set_other vs (slot L x) y i 0 (s.1 x j.0) ∙ m.reserved y s;
        result = λ d. get_or-set_other vs (slot L x) L.rv i 0 (λ e. let q = h.allocation.low x j.0 in absurd (omega arith)) ∙ m.result d;
        alive = λ d. get_or-set_other vs (slot L x) (L.rv + 1) i 0 (λ e. let q = h.allocation.low x j.0 in absurd (omega arith)) ∙ m.alive d;
      }
    where
      go : (y : ℕ) → y < length L.types → (t : Bool) → eqb y x ≡ t → get_or (set S.marks x inside) y 0 ≢ outside
          → get_or (set vs (slot L x) i) (slot L y) 0 ≡ get_or (set us x i) y 0
      go y p true e n =
          let a = m.source in
          let b = m.size in
          let c = h.allocation.few in
          let d = (loop_variable h.rules).0 in
          let f = h.allocation.low x d in
          let g = h.allocation.base in
          let q = h.allocation.free in
          let r = h.allocation.room in
          rw (eqb-true y x e, get_or-set_same vs (slot L x) i 0 (omega arith), get_or-set_same us x i 0 (omega arith)) refl
      go y p false e n =
          let q = eqb-false y x e in
          let n' : get_or S.marks y 0 ≢ outside = rw (get_or-set_other S.marks x y inside 0 q) at n in
          get_or-set_other vs (slot L x) (slot L y) i 0 (λ f. q (renamed_injective L.first y x f)) ∙ m.vars y p n' ∙ sym (get_or-set_other us x y i 0 q)

  leave_bounded : (vs : List ℕ) → Bounded (bounds_inside S.bounds x f g) L.first vs → Bounded S.bounds L.first vs
  leave_bounded vs c y q =
      let t = h.allocation.tied y q in
      let n : y ≢ x = (λ e. let a : get_or S.marks x 0 ≡ inside = rw e at t.1 in let b = (loop_variable h.rules).1 in absurd (omega arith)) in
      rw (get_or-set_other S.bounds x y (loop_of f g) unbounded n) at (c y) q

  pub live_leave : {val : ℕ → ℕ} {us vs : List ℕ} → Live L (entered S x f g) val us vs → Live L S val us vs
  live_leave {val} {us} {vs} m =
      record {
        source = m.source;
        size = m.size;
        vars = λ y p n. m.vars y p (λ e. n (seen y n e));
        bounded = leave_bounded vs m.bounded;
        reserved = m.reserved;
        result = m.result;
        alive = m.alive;
      }
    where
      seen : (y : ℕ) → get_or S.marks y 0 ≢ outside → get_or (set S.marks x inside) y 0 ≡ outside → get_or S.marks y 0 ≡ outside
      seen y n e =
          let q : y ≢ x = (λ r. let a = (loop_variable h.rules).1 in n (rw r a)) in
          sym (get_or-set_other S.marks x y inside 0 q) ∙ e

  pub deferred_leave : {val : ℕ → ℕ} {v : ℕ} {vs : List ℕ} → Deferred L (entered S x f g) val v vs → Deferred L S val v vs
  deferred_leave {vs = vs} m = record { size = m.size; bounded = leave_bounded vs m.bounded; reserved = m.reserved; result = m.result; ended = m.ended }
