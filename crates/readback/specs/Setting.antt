-- What a compiled procedure has beside its source's variables, and the parts that the compiler makes of it: the act, masked values.
-- Assumes nothing.
use Rattle.std.specs.Prelude.{ℕ, ◌+◌, ◌*◌, ◌≤◌, ◌<◌, Bool, ◌&&◌, ◌||◌, not, List, [], ◌≡◌, ltb, eqb, length, get_or}
use Rattle.std.proofs.Math.Bool.{true, false}
use Rattle.std.proofs.Math.Path.{refl}
use Rattle.std.proofs.Common.{sym, ◌∙◌, arith, lt-ltb, eqb-true}
use Rattle.definitions.specs.declared.ConstantLoop.{ConstantLoop}
use Rattle.definitions.specs.Operators.{boolean_sort}
use Rattle.definitions.specs.Image.{type_secret, type_sort, Expression, variable, select, place_of, Statement, assign}
use Rattle.definitions.specs.Image.{store, conditional, loop, return, call, Block, done, sequence, Procedure, guarded}
use Rattle.definitions.specs.Image.{procedure_at}
use Rattle.definitions.specs.Sorts.{no_sort, sort_of, sort_in, wrong_sort, ordinary, outside, sort_faults, operand_faults}
use Rattle.definitions.specs.Sorts.{statement_sort_faults, block_sort_faults}
use Rattle.definitions.specs.Labels.{secret_in, label_faults, statement_label_faults, block_label_faults, rc_after}
use Rattle.definitions.specs.Labels.{rc_after_block}
use Rattle.definitions.specs.Compiling.{secret_boolean, secret_of, renamed, moved, act, masked, under, followed_by}
use Rattle.definitions.specs.Compiling.{statement_nesting, block_nesting, statement_needs, block_needs, compiled_statement}
use Rattle.definitions.specs.Compiling.{compiled_block, guards}
use Rattle.laws.specs.Tests.{false_true, and_false, nil_left, nil_right}
use Rattle.statements.specs.Limits.{FitsExpression}
use Rattle.readback.specs.Clean.{sink, source, sorts_agree}
use Rattle.readback.specs.Good.{GoodExpression, good_variable, good_binary, good_select, GoodStatement}
use Rattle.readback.specs.Good.{good_assign, GoodBlock, good_done, good_step}
use Rattle.readback.specs.Source.{good_known, source_good}
use Rattle.readback.specs.Renaming.{Added, Marked, renamed_sort, moved_sort, moved_secret, moved_good}

-- rc stays secret
mutual
  unfolding rc_after rc_after_block

  pub rc_stays : (types arrays : List ℕ) (s : Statement) (pc : Bool) → rc_after types arrays pc true s ≡ true
  rc_stays types arrays (assign x e) pc = refl
  rc_stays types arrays (store a i e) pc = refl
  rc_stays types arrays (conditional c a b) pc = rw (rc_block_stays types arrays a (pc || secret_in types arrays c))
  rc_stays types arrays (loop x f t b) pc = rc_block_stays types arrays b pc
  rc_stays types arrays (return e) true = refl
  rc_stays types arrays (return e) false = refl
  rc_stays types arrays (call f x es) pc = refl

  pub rc_block_stays : (types arrays : List ℕ) (b : Block) (pc : Bool) → rc_after_block types arrays pc true b ≡ true
  rc_block_stays types arrays done pc = refl
  rc_block_stays types arrays (sequence l s b) pc = rw (rc_stays types arrays s pc) (rc_block_stays types arrays b pc)

-- a procedure that can be called, and what it is compiled to
pub record Callee (p p' : Procedure) : Type 0 where
  pub result_kept : p'.result ≡ p.result
  pub parameters_kept : p'.parameters ≡ p.parameters + guards p
  pub parameters_named : p.parameters ≤ length p.types
  pub sorts_kept : (k : ℕ) → k < p.parameters → sort_of p'.types k ≡ sort_of p.types k
  pub labels_kept : (k : ℕ) → k < p.parameters → type_secret (get_or p'.types k 0) ≡ type_secret (get_or p.types k 0)
  pub guard_sort : guarded p ≡ true → sort_of p'.types p.parameters ≡ boolean_sort
  pub guard_label : guarded p ≡ true → type_secret (get_or p'.types p.parameters 0) ≡ true

-- One procedure and what it is compiled to: the image's form and procedures before and after, its array words; the procedure's type words before and
-- after, its number, its numbers of parameters before and after, its result's type word, the first variable that moves, RV, and the temporary for
-- results of each sort.
pub record Setting : Type 0 where
  pub form : ℕ
  pub ps : List Procedure
  pub ps' : List Procedure
  pub arrays : List ℕ
  pub types : List ℕ
  pub types' : List ℕ
  pub me : ℕ
  pub parameters : ℕ
  pub parameters' : ℕ
  pub result : ℕ
  pub first : ℕ
  pub rv : ℕ
  pub temporary : ℕ → ℕ
  pub typed : (x : ℕ) → x < length types → get_or types' (renamed first x) 0 ≡ get_or types x 0
  pub below : (x : ℕ) → x < length types → renamed first x < rv
  pub room : rv ≤ length types'
  pub few : length types < 256
  pub local : (x : ℕ) → x < length types → ltb x parameters ≡ false → ltb (renamed first x) parameters' ≡ false
  pub callee : (f : ℕ) → f < me → Callee (procedure_at ps f) (procedure_at ps' f)

module _ (here : Setting) where
  open here use {form, ps, ps', arrays, types, types', me, parameters, parameters', result, first, rv, temporary, typed, below}

  pub inside_room : (x : ℕ) → x < length types → renamed first x < length types'
  inside_room x h = let b = below x h in omega arith

  pub variable_sort : (x : ℕ) → x < length types → sort_of types' (renamed first x) ≡ sort_of types x
  variable_sort x h = renamed_sort arrays types types' first typed inside_room x h

  pub sort_moved : {marks : List ℕ} {e : Expression} → GoodExpression types arrays marks e → sort_in types' (moved first e) ≡ sort_in types e
  sort_moved {marks} g = moved_sort arrays types types' first typed inside_room marks g

  pub secret_moved : {marks : List ℕ} {e : Expression} → GoodExpression types arrays marks e → secret_in types' arrays (moved first e) ≡ secret_in types arrays e
  secret_moved {marks} g = moved_secret arrays types types' first typed inside_room marks g

  pub good_moved :
      {marks marks' : List ℕ} {e : Expression} → Marked first (length types) marks marks' → GoodExpression types arrays marks e
      → GoodExpression types' arrays marks' (moved first e)
  good_moved {marks} {marks'} m g = moved_good arrays types types' first typed inside_room marks marks' m g

  -- a variable that the compiler adds, with its type word
  abbrev pub Slot : ℕ → ℕ → Type 0
  Slot y t = Added first (length types) types' y t

  -- RV and LIVE
  abbrev pub Deferred : Type 0
  Deferred = Slot rv result × Slot (rv + 1) secret_boolean

  -- T and E for so many levels, from k on
  abbrev pub Pairs : ℕ → ℕ → Type 0
  Pairs k n = (y : ℕ) → k ≤ y → y < k + 2 * n → Slot y secret_boolean

  -- the temporary for results of each sort that needs one
  abbrev pub Temporaries : (ℕ → Bool) → Type 0
  Temporaries needs = (sort : ℕ) → sort < 2 → needs sort ≡ true → Slot (temporary sort) (secret_of sort)

  abbrev pub Good' : List ℕ → Block → Type 0
  Good' marks' b = GoodBlock ps' me parameters' types' result arrays marks' b

  pub slot_sort : (y t : ℕ) → Slot y t → sort_of types' y ≡ type_sort t
  slot_sort y t s = rw (lt-ltb y (length types') s.0, s.2)

  pub followed : {marks' : List ℕ} {a b : Block} → Good' marks' a → Good' marks' b → Good' marks' (followed_by a b)
  unfolding followed_by
  followed good_done h = h
  followed (good_step g gs) h = good_step g (followed gs h)

  module _ (marks marks' : List ℕ) (marked : Marked first (length types) marks marks') where
    pub slot_mark : (y t : ℕ) → Slot y t → eqb (get_or marks' y 0) ordinary ≡ true
    slot_mark y t s = rw (marked.new y s.1)

    -- a variable of the source that no for names
    pub old_mark : (x : ℕ) → x < length types → eqb (get_or marks x 0) ordinary ≡ true → eqb (get_or marks' (renamed first x) 0) ordinary ≡ true
    old_mark x h o = rw (marked.old x h) o

    pub old_good : (x : ℕ) → x < length types → eqb (get_or marks x 0) ordinary ≡ true → GoodExpression types' arrays marks' (variable 0 (renamed first x))
    old_good x h o = good_variable (inside_room x h) mark
      where
        mark : eqb (get_or marks' (renamed first x) 0) outside ≡ false
        mark = rw (marked.old x h ∙ eqb-true (get_or marks x 0) ordinary o)

    pub slot_good : (y t : ℕ) → Slot y t → GoodExpression types' arrays marks' (variable 0 y)
    slot_good y t s = good_variable s.0 (rw (marked.new y s.1))

    -- an assignment to such a variable
    pub slot_assign :
        (y t : ℕ) {e : Expression} → Slot y t → type_secret t ≡ true → GoodExpression types' arrays marks' e → sort_in types' e ≡ type_sort t
        → GoodStatement ps' me parameters' types' result arrays marks' (assign y e)
    slot_assign y t {e} s l g q = good_assign s.0 (slot_mark y t s) g (q ∙ sym (slot_sort y t s))
        (and_false (secret_in types' arrays e) (not (type_secret (get_or types' y 0))) (rw (s.2, l)))

    -- the act
    pub act_good :
        (pc : Bool) (arm : ℕ) (rc : Bool) → (pc ≡ true → Slot arm secret_boolean) → (rc ≡ true → Deferred) → (pc || rc) ≡ true
        → GoodExpression types' arrays marks' (act pc arm rc (rv + 1)) × (sort_in types' (act pc arm rc (rv + 1)) ≡ boolean_sort)
    unfolding act sort_in
    act_good true arm true a d h =
        let s = a refl in
        let t = (d refl).1 in (
          good_binary {o = 13} (omega arith) (slot_good arm secret_boolean s) (slot_good (rv + 1) secret_boolean t) (slot_sort arm secret_boolean s)
              (slot_sort (rv + 1) secret_boolean t) refl refl,
          refl,
        )
    act_good true arm false a d h = (slot_good arm secret_boolean (a refl), slot_sort arm secret_boolean (a refl))
    act_good false arm true a d h = (slot_good (rv + 1) secret_boolean (d refl).1, slot_sort (rv + 1) secret_boolean (d refl).1)
    act_good false arm false a d h = absurd (false_true h)

    -- what is masked by it
    pub masked_good :
        (b : Bool) (a e old : Expression) → (b ≡ true → GoodExpression types' arrays marks' a × (sort_in types' a ≡ boolean_sort))
        → GoodExpression types' arrays marks' e → GoodExpression types' arrays marks' old → sort_in types' old ≡ sort_in types' e
        → GoodExpression types' arrays marks' (masked b a e old)
    unfolding masked
    masked_good true a e old h g g' s = good_select (h refl).0 g g' (h refl).1 s
    masked_good false a e old h g g' s = g

    pub under_good :
        (b : Bool) (a e : Expression) → (b ≡ true → GoodExpression types' arrays marks' a × (sort_in types' a ≡ boolean_sort))
        → GoodExpression types' arrays marks' e → sort_in types' e ≡ boolean_sort → GoodExpression types' arrays marks' (under b a e) × (sort_in types' (under b a e) ≡ boolean_sort)
    unfolding under sort_in
    under_good true a e h g s = (good_binary {o = 13} (omega arith) (h refl).0 g (h refl).1 s refl refl, refl)
    under_good false a e h g s = (g, s)

    -- an operand that has no fault
    pub operand_good :
        {l : ℕ} {e : Expression} → FitsExpression l e → (bounds : List ConstantLoop) (context : Bool) (want : ℕ) → eqb want no_sort ≡ false
        → operand_faults types (length arrays) marks want e ≡ [] → label_faults types arrays bounds context e ≡ [] → GoodExpression types arrays marks e × (sort_in types e ≡ want)
    operand_good {e = e} fit bounds context want k s l =
        let g = source_good types arrays marks fit bounds context (nil_left (sort_faults types (length arrays) marks e) _ s) l in (
          g,
          sorts_agree want (sort_in types e) (place_of e) (nil_right (sort_faults types (length arrays) marks e) (wrong_sort want (sort_in types e) (place_of e)) s) k
              (good_known types arrays marks g),
        )

  pub masked_sort : (b : Bool) (a e old : Expression) → sort_in types' (masked b a e old) ≡ sort_in types' e
  unfolding masked sort_in
  masked_sort true a e old = refl
  masked_sort false a e old = refl

  pub masked_flow : (b d s : Bool) (a e old : Expression) → secret_in types' arrays e ≡ s → ((s || b) && not d) ≡ false → (secret_in types' arrays (masked b a e old) && not d) ≡ false
  unfolding masked
  masked_flow true d s a e old q h = and_false (secret_in types' arrays (select 0 a e old)) (not d) (sink s (not d) h)
  masked_flow false d s a e old q h = rw q (source s (not d) h)

  -- the types of the statement lemmas
  abbrev pub StatementGood : Statement → Type 0
  StatementGood s =
      (pc : Bool) (arm : ℕ) (rc : Bool) (k : ℕ) (marks marks' : List ℕ) (bounds : List ConstantLoop) (p : ℕ) → Marked first (length types) marks marks'
      → (pc ≡ true → Slot arm secret_boolean) → (rc_after types arrays pc rc s ≡ true → Deferred) → Pairs k (statement_nesting arrays types s)
      → Temporaries (λ sort. statement_needs ps arrays types sort pc rc s)
      → statement_sort_faults ps parameters types result (length arrays) marks p s ≡ [] → statement_label_faults form ps arrays types result bounds pc rc p s ≡ []
      → Good' marks' (compiled_statement ps arrays types first rv temporary s pc arm rc k)

  abbrev pub BlockGood : Block → Type 0
  BlockGood b =
      (pc : Bool) (arm : ℕ) (rc : Bool) (k : ℕ) (marks marks' : List ℕ) (bounds : List ConstantLoop) → Marked first (length types) marks marks'
      → (pc ≡ true → Slot arm secret_boolean) → (rc_after_block types arrays pc rc b ≡ true → Deferred) → Pairs k (block_nesting arrays types b)
      → Temporaries (λ sort. block_needs ps arrays types sort pc rc b)
      → block_sort_faults ps parameters types result (length arrays) marks b ≡ [] → block_label_faults form ps arrays types result bounds pc rc b ≡ []
      → Good' marks' (compiled_block ps arrays types first rv temporary b pc arm rc k)

  pub keeps : (s : Statement) (pc rc : Bool) → (rc_after types arrays pc rc s ≡ true → Deferred) → rc ≡ true → Deferred
  keeps s pc rc d e = d (rw e (rc_stays types arrays s pc))
