-- Where a statement or block stands in the compiling of a procedure's body: the rules that it keeps and the variables in use there; and where
-- its parts stand. Assumes nothing.
use Rattle.std.specs.Prelude.{◌≡◌, Bool, true, false, ◌||◌, List, ℕ, ◌+◌, ◌*◌, ◌<◌, ◌≤◌, max, eqb, length, get_or, set}
use Rattle.std.proofs.Math.Path.{refl}
use Rattle.std.proofs.Common.{◌∙◌, arith, length-set, get_or-set_same, get_or-set_other, eqb-true, eq-eqb}
use Rattle.std.proofs.lemmas.Bool.{eqb-false}
use Rattle.definitions.specs.Choice.{pick}
use Rattle.definitions.specs.Image.{type_sort, Expression, Statement, conditional, loop, call, Block, sequence, procedure_at}
use Rattle.definitions.specs.Sorts.{inside}
use Rattle.definitions.specs.Labels.{rc_after, rc_after_block, unbounded, loop_of, bounds_inside}
use Rattle.definitions.specs.Compiling.{statement_nesting, block_nesting, statement_needs, block_needs, compiled_statement}
use Rattle.definitions.specs.Compiling.{compiled_block}
use Rattle.laws.specs.Tests.{or_true, or_false, or_left, or_right}
use Rattle.preservation.specs.Contexts.{rc_rises_block, rc_again}
use Rattle.preservation.specs.Evaluations.{MayBound}
use Rattle.preservation.specs.Layouts.{Layout, Scope, Allocation, temporary_at, rc_after_at, rc_after_block_at, secret_at}
use Rattle.preservation.specs.Rules.{StatementRules, BlockRules, block_first, block_rest, if_then, if_else}
use Rattle.preservation.specs.Rules.{loop_variable, loop_body}

-- the number of variables of the pairs that a statement takes, and that a block takes
abbrev pub size_of : Layout → Statement → ℕ
size_of L s = 2 * statement_nesting L.arrays L.types s

abbrev pub size_of_block : Layout → Block → ℕ
size_of_block L b = 2 * block_nesting L.arrays L.types b

-- whether a statement needs the temporary of a sort, and whether a block does
abbrev pub needs_at : Layout → ℕ → Bool → Bool → Statement → Bool
needs_at L sort pc rc s = statement_needs L.procedures L.arrays L.types sort pc rc s

abbrev pub block_needs_at : Layout → ℕ → Bool → Bool → Block → Bool
block_needs_at L sort pc rc b = block_needs L.procedures L.arrays L.types sort pc rc b

-- a statement and a block, compiled: under pc with its arm's variable and rc, with pairs from k on
abbrev pub code : Layout → Statement → Bool → ℕ → Bool → ℕ → Block
code L s pc arm rc k = compiled_statement L.procedures L.arrays L.types L.first L.rv L.temporary s pc arm rc k

abbrev pub codes : Layout → Block → Bool → ℕ → Bool → ℕ → Block
codes L b pc arm rc k = compiled_block L.procedures L.arrays L.types L.first L.rv L.temporary b pc arm rc k

-- a statement that stands there keeps the rules, and has its variables; a temporary that it needs is one of the frame
pub record StatementAt (L : Layout) (S : Scope) (pc : Bool) (arm : ℕ) (rc : Bool) (k l : ℕ) (s : Statement) : Type 0 where
  pub rules : StatementRules L S.marks S.bounds pc rc l s
  pub allocation : Allocation L S pc arm rc k (size_of L s) (rc_after_at L pc rc s)
  pub temporaries : (w : ℕ) → needs_at L (type_sort w) pc rc s ≡ true → L.temporary (type_sort w) < 255

pub record BlockAt (L : Layout) (S : Scope) (pc : Bool) (arm : ℕ) (rc : Bool) (k : ℕ) (b : Block) : Type 0 where
  pub rules : BlockRules L S.marks S.bounds pc rc b
  pub allocation : Allocation L S pc arm rc k (size_of_block L b) (rc_after_block_at L pc rc b)
  pub temporaries : (w : ℕ) → block_needs_at L (type_sort w) pc rc b ≡ true → L.temporary (type_sort w) < 255

-- a call's temporary is not in use
pub temporary_free : {L : Layout} {S : Scope} {pc : Bool} {arm : ℕ} {rc : Bool} {k size : ℕ} {end : Bool} → Allocation L S pc arm rc k size end
    → (f : ℕ) → S.limit ≤ temporary_at L f
temporary_free {L} h f =
    let b = h.free in
    let a = h.above (type_sort (procedure_at L.procedures f).result) in
    omega arith

-- a part, with fewer pairs
pub allocation_part : {L : Layout} {S : Scope} {pc : Bool} {arm : ℕ} {rc rc' : Bool} {k size size' : ℕ} {end end' : Bool}
    → Allocation L S pc arm rc k size end → size' ≤ size → (rc' ≡ true → L.defers ≡ true) → (end' ≡ true → L.defers ≡ true)
    → Allocation L S pc arm rc' k size' end'
allocation_part h q b e =
    let r = h.room in
    record {
      low = h.low;
      few = h.few;
      marks_size = h.marks_size;
      bounds_size = h.bounds_size;
      tied = h.tied;
      base = h.base;
      returns = h.returns;
      armed = h.armed;
      free = h.free;
      room = omega arith;
      above = λ sort. let a = h.above sort in omega arith;
      begins = b;
      ends = e;
    }

-- more variables are in use
abbrev pub widened : Scope → ℕ → Scope
widened S limit = record { marks = S.marks; bounds = S.bounds; limit = limit }

-- an arm of a secret if, under a new variable: the if's pair is in use there, and the pairs further in come after it
pub allocation_arm : {L : Layout} {S : Scope} {pc : Bool} {arm : ℕ} {rc : Bool} {k size size' : ℕ} {end end' : Bool}
    → Allocation L S pc arm rc k size end → (new : ℕ) → k ≤ new → new < k + 2 → 2 + size' ≤ size → (end' ≡ true → L.defers ≡ true)
    → Allocation L (widened S (k + 2)) true new rc (k + 2) size' end'
allocation_arm {L} {S} {k = k} {size} {size'} h new p q v e =
    let f = h.free in
    let r = h.room in
    let b = h.base in
    record {
      low = h.low;
      few = h.few;
      marks_size = h.marks_size;
      bounds_size = h.bounds_size;
      tied = h.tied;
      base = omega arith;
      returns = λ d. let g = h.returns d in omega arith;
      armed = λ _. (q, λ x i j. (let g = h.low x i in omega arith), λ d j. (let g = h.returns d in omega arith), λ d j. (let g = h.returns d in omega arith));
      free = omega arith;
      room = omega arith;
      above = λ sort. let a = h.above sort in omega arith;
      begins = h.begins;
      ends = e;
    }

module _ {L : Layout} {S : Scope} {pc : Bool} {arm : ℕ} {rc : Bool} {k : ℕ} where
  pub first_statement : {l : ℕ} {s : Statement} {b : Block} → BlockAt L S pc arm rc k (sequence l s b) → StatementAt L S pc arm rc k l s
  unfolding rc_after_block block_nesting block_needs
  first_statement {l} {s} {b} h =
      record {
        rules = block_first h.rules;
        allocation = allocation_part h.allocation (omega arith) h.allocation.begins
            (λ q. h.allocation.ends (rc_rises_block L.types L.arrays b pc (rc_after_at L pc rc s) q));
        temporaries = λ w n. h.temporaries w (or_left (needs_at L (type_sort w) pc rc s) (block_needs_at L (type_sort w) pc (rc_after_at L pc rc s) b) n);
      }

  pub rest_block : {l : ℕ} {s : Statement} {b : Block} → BlockAt L S pc arm rc k (sequence l s b) → BlockAt L S pc arm (rc_after_at L pc rc s) k b
  unfolding rc_after_block block_nesting block_needs
  rest_block {l} {s} {b} h =
      record {
        rules = block_rest h.rules;
        allocation = allocation_part h.allocation (omega arith)
            (λ q. h.allocation.ends (rc_rises_block L.types L.arrays b pc (rc_after_at L pc rc s) q)) h.allocation.ends;
        temporaries = λ w n. h.temporaries w (or_right (needs_at L (type_sort w) pc rc s) (block_needs_at L (type_sort w) pc (rc_after_at L pc rc s) b) n);
      }

module _ {L : Layout} {S : Scope} {pc : Bool} {arm : ℕ} {rc : Bool} {k l : ℕ} {c : Expression} {a b : Block} (h : StatementAt L S pc arm rc k l (conditional c a b)) where
  if_size : (s : Bool) → secret_at L c ≡ s
      → size_of L (conditional c a b) ≡ 2 * (pick s 1 0 + max (block_nesting L.arrays L.types a) (block_nesting L.arrays L.types b))
  unfolding statement_nesting
  if_size s e = rw e refl

  if_needs_then : (s : Bool) → secret_at L c ≡ s → (w : ℕ) → block_needs_at L (type_sort w) (pc || s) rc a ≡ true → L.temporary (type_sort w) < 255
  unfolding statement_needs
  if_needs_then s e w n =
      h.temporaries w (or_left (block_needs_at L (type_sort w) (pc || secret_at L c) rc a) (block_needs_at L (type_sort w) (pc || secret_at L c) rc b) (rw e n))

  if_needs_else : (s : Bool) → secret_at L c ≡ s → (w : ℕ) → block_needs_at L (type_sort w) (pc || s) rc b ≡ true → L.temporary (type_sort w) < 255
  unfolding statement_needs
  if_needs_else s e w n =
      h.temporaries w (or_right (block_needs_at L (type_sort w) (pc || secret_at L c) rc a) (block_needs_at L (type_sort w) (pc || secret_at L c) rc b) (rw e n))

  if_end_then : (s : Bool) → secret_at L c ≡ s → rc_after_block_at L (pc || s) rc a ≡ true → L.defers ≡ true
  unfolding rc_after
  if_end_then s e q = h.allocation.ends (or_left (rc_after_block_at L (pc || secret_at L c) rc a) (rc_after_block_at L (pc || secret_at L c) rc b) (rw e q))

  if_end_else : (s : Bool) → secret_at L c ≡ s → rc_after_block_at L (pc || s) rc b ≡ true → L.defers ≡ true
  unfolding rc_after
  if_end_else s e q = h.allocation.ends (or_right (rc_after_block_at L (pc || secret_at L c) rc a) (rc_after_block_at L (pc || secret_at L c) rc b) (rw e q))

  pub secret_then : secret_at L c ≡ true → BlockAt L (widened S (k + 2)) true k rc (k + 2) a
  secret_then e =
      let n = if_size true e in
      let p : (pc || true) ≡ true = or_true pc in
      let o : BlockRules L S.marks S.bounds (pc || true) rc a = rw e at (if_then h.rules) in
      let z : Allocation L (widened S (k + 2)) true k rc (k + 2) (size_of_block L a) (rc_after_block_at L (pc || true) rc a)
      = allocation_arm h.allocation k (omega arith) (omega arith) (omega arith) (if_end_then true e) in
      record { rules = rw p at o; allocation = rw p at z; temporaries = rw p at (if_needs_then true e) }

  pub secret_else : secret_at L c ≡ true → BlockAt L (widened S (k + 2)) true (k + 1) rc (k + 2) b
  secret_else e =
      let n = if_size true e in
      let p : (pc || true) ≡ true = or_true pc in
      let o : BlockRules L S.marks S.bounds (pc || true) rc b = rw e at (if_else h.rules) in
      let z : Allocation L (widened S (k + 2)) true (k + 1) rc (k + 2) (size_of_block L b) (rc_after_block_at L (pc || true) rc b)
      = allocation_arm h.allocation (k + 1) (omega arith) (omega arith) (omega arith) (if_end_else true e) in
      record { rules = rw p at o; allocation = rw p at z; temporaries = rw p at (if_needs_else true e) }

  pub public_then : secret_at L c ≡ false → BlockAt L S pc arm rc k a
  public_then e =
      let n = if_size false e in
      let p : (pc || false) ≡ pc = or_false pc in
      let o : BlockRules L S.marks S.bounds (pc || false) rc a = rw e at (if_then h.rules) in
      let z : Allocation L S pc arm rc k (size_of_block L a) (rc_after_block_at L (pc || false) rc a)
      = allocation_part h.allocation (omega arith) h.allocation.begins (if_end_then false e) in
      record { rules = rw p at o; allocation = rw p at z; temporaries = rw p at (if_needs_then false e) }

  pub public_else : secret_at L c ≡ false → BlockAt L S pc arm rc k b
  public_else e =
      let n = if_size false e in
      let p : (pc || false) ≡ pc = or_false pc in
      let o : BlockRules L S.marks S.bounds (pc || false) rc b = rw e at (if_else h.rules) in
      let z : Allocation L S pc arm rc k (size_of_block L b) (rc_after_block_at L (pc || false) rc b)
      = allocation_part h.allocation (omega arith) h.allocation.begins (if_end_else false e) in
      record { rules = rw p at o; allocation = rw p at z; temporaries = rw p at (if_needs_else false e) }

-- inside a for over x
abbrev pub entered : Scope → ℕ → Expression → Expression → Scope
entered S x f g = record { marks = set S.marks x inside; bounds = bounds_inside S.bounds x f g; limit = S.limit }

-- a for's block
pub loop_block : {L : Layout} {S : Scope} {pc : Bool} {arm : ℕ} {rc : Bool} {k l x : ℕ} {f g : Expression} {b : Block} → StatementAt L S pc arm rc k l (loop x f g b)
    → BlockAt L (entered S x f g) pc arm (rc_after_block_at L pc rc b) k b
unfolding rc_after statement_nesting statement_needs
loop_block {L} {S} {pc} {arm} {rc} {k} {l} {x} {f} {g} {b} h =
    let z = h.allocation in
    let i = loop_variable h.rules in
    record {
      rules = loop_body h.rules;
      allocation = record {
        low = z.low;
        few = z.few;
        marks_size = length-set S.marks x inside ∙ z.marks_size;
        bounds_size = length-set S.bounds x (loop_of f g) ∙ z.bounds_size;
        tied = λ y. go y (eqb y x) refl;
        base = z.base;
        returns = z.returns;
        armed = z.armed;
        free = z.free;
        room = z.room;
        above = z.above;
        begins = z.ends;
        ends = λ q. z.ends (rc_again L.types L.arrays b pc rc q);
      };
      temporaries = h.temporaries;
    }
  where
    go : (y : ℕ) (t : Bool) → eqb y x ≡ t → MayBound (get_or (bounds_inside S.bounds x f g) y unbounded) → (y < length L.types) × (get_or (set S.marks x inside) y 0 ≡ inside)
    go y true e q =
        let i = (loop_variable h.rules).0 in
        let j = h.allocation.few in
        let m = h.allocation.marks_size in
        rw (eqb-true y x e) (i, get_or-set_same S.marks x inside 0 (omega arith))
    go y false e q =
        let n = eqb-false y x e in
        let r : MayBound (get_or S.bounds y unbounded) = rw (get_or-set_other S.bounds x y (loop_of f g) unbounded n) at q in
        rw (get_or-set_other S.marks x y inside 0 n) (h.allocation.tied y r)

-- a for's block among the variables in use around it
pub loop_allocation : {L : Layout} {S : Scope} {pc : Bool} {arm : ℕ} {rc : Bool} {k l x : ℕ} {f g : Expression} {b : Block} → StatementAt L S pc arm rc k l (loop x f g b)
    → Allocation L S pc arm (rc_after_block_at L pc rc b) k (size_of L (loop x f g b)) (rc_after_block_at L pc rc b)
unfolding rc_after
loop_allocation h = allocation_part h.allocation (omega arith) h.allocation.ends h.allocation.ends

-- the temporary of a call in a secret context is one of the frame
pub call_room : {L : Layout} {S : Scope} {pc : Bool} {arm : ℕ} {rc : Bool} {k l f x : ℕ} {es : List Expression} → StatementAt L S pc arm rc k l (call f x es)
    → (pc || rc) ≡ true → temporary_at L f < 255
unfolding statement_needs
call_room {L} {f = f} h s =
    let w = (procedure_at L.procedures f).result in
    h.temporaries w (rw (s, eq-eqb (type_sort w) (type_sort w) refl) refl)
