-- A good tree has no fault, nor has any tree that is like it up to places. Assumes nothing.
use Rattle.std.specs.Prelude.{ℕ, zero, suc, Bool, true, false, ◌&&◌, ◌||◌, List, [], ◌≡◌, ltb, leb, eqb, length, get_or, set}
use Rattle.std.proofs.Math.Bool.{not}
use Rattle.std.proofs.Math.Path.{refl, sym}
use Rattle.std.proofs.Common.{◌∙◌}
use Rattle.std.proofs.lemmas.Bool.{lt-leb}
use Rattle.definitions.specs.declared.ConstantLoop.{ConstantLoop}
use Rattle.definitions.specs.Operators.{operator, word_sort, boolean_sort, unary_operand, both, right}
use Rattle.definitions.specs.Image.{array_secret, type_secret, type_sort, Expression, place_of, Statement, Block, Procedure}
use Rattle.definitions.specs.Image.{procedure_at}
use Rattle.definitions.specs.Faults.{fault_if}
use Rattle.definitions.specs.Sorts.{sort_of, sort_in, ordinary, outside, inside, sort_faults, operand_faults}
use Rattle.definitions.specs.Sorts.{argument_faults, statement_sort_faults, block_sort_faults, mark_statement, mark_block}
use Rattle.definitions.specs.Labels.{secret_in, label_faults, argument_label_faults, loop_bound_faults, bounds_inside}
use Rattle.definitions.specs.Labels.{statement_label_faults, block_label_faults, rc_after, rc_after_block}
use Rattle.laws.specs.Tests.{nil_both, no_fault_lem}
use Rattle.readback.specs.Like.{LikeExpression, like_constant, like_boolean, like_variable, like_cell, like_unary}
use Rattle.readback.specs.Like.{like_binary, like_select, LikeAll, like_none, like_more, LikeStatement}
use Rattle.readback.specs.Like.{like_assign, like_store, like_conditional, like_loop, like_return, like_call}
use Rattle.readback.specs.Like.{LikeBlock, like_done, like_step, LikeProcedure, LikeProcedures, like_empty}
use Rattle.readback.specs.Like.{like_next}
use Rattle.readback.specs.Clean.{right_sort}
use Rattle.readback.specs.Good.{GoodExpression, good_constant, good_boolean, good_variable, good_cell, good_unary}
use Rattle.readback.specs.Good.{good_binary, good_select, GoodArguments, good_none, good_more, GoodStatement}
use Rattle.readback.specs.Good.{good_assign, good_store, good_conditional, good_loop, good_return, good_call}
use Rattle.readback.specs.Good.{GoodBlock, good_done, good_step}

-- sorts, labels and marks do not depend on places
pub like_sort : (types : List ℕ) {e f : Expression} → LikeExpression e f → sort_in types f ≡ sort_in types e
unfolding sort_in
like_sort types like_constant = refl
like_sort types like_boolean = refl
like_sort types like_variable = refl
like_sort types (like_cell i) = refl
like_sort types (like_unary e) = refl
like_sort types (like_binary e f) = refl
like_sort types (like_select c e f) = like_sort types e

pub like_secret : (types arrays : List ℕ) {e f : Expression} → LikeExpression e f → secret_in types arrays f ≡ secret_in types arrays e
unfolding secret_in
like_secret types arrays like_constant = refl
like_secret types arrays like_boolean = refl
like_secret types arrays like_variable = refl
like_secret types arrays (like_cell i) = rw (like_secret types arrays i)
like_secret types arrays (like_unary e) = like_secret types arrays e
like_secret types arrays (like_binary e f) = rw (like_secret types arrays e, like_secret types arrays f)
like_secret types arrays (like_select c e f) = rw (like_secret types arrays c, like_secret types arrays e, like_secret types arrays f)

mutual
  unfolding mark_statement mark_block

  pub like_mark : {s t : Statement} → LikeStatement s t → (marks : List ℕ) → mark_statement t marks ≡ mark_statement s marks
  like_mark (like_assign e) marks = refl
  like_mark (like_store i e) marks = refl
  like_mark (like_conditional {a = a} c x y) marks = rw (like_marks x marks) (like_marks y (mark_block a marks))
  like_mark (like_loop {x = x} f t b) marks = like_marks b (set marks x outside)
  like_mark (like_return e) marks = refl
  like_mark (like_call es) marks = refl

  pub like_marks : {b c : Block} → LikeBlock b c → (marks : List ℕ) → mark_block c marks ≡ mark_block b marks
  like_marks like_done marks = refl
  like_marks (like_step {s = s} x y) marks = rw (like_mark x marks) (like_marks y (mark_statement s marks))

module _ (types arrays marks : List ℕ) where
  pub good_sorts : {e f : Expression} → GoodExpression types arrays marks e → LikeExpression e f → sort_faults types (length arrays) marks f ≡ []
  unfolding sort_faults
  good_sorts good_constant like_constant = refl
  good_sorts (good_boolean h) like_boolean = refl
  good_sorts (good_variable {x = x} h m) (like_variable {q = q}) = nil_both _ _ (no_fault_lem (leb (length types) x) 6 q (lt-leb (length types) x h))
      (no_fault_lem (eqb (get_or marks x 0) outside) 8 q m)
  good_sorts (good_cell {a = a} h g s l) (like_cell {q = q} {j = j} k) =
      nil_both _ _ (no_fault_lem (leb (length arrays) a) 6 q (lt-leb (length arrays) a h))
      (nil_both _ _ (good_sorts g k) (right_sort word_sort (sort_in types j) (place_of j) (like_sort types k ∙ s)))
  good_sorts (good_unary {o = o} h g s) (like_unary {f = f} k) =
      nil_both _ _ (good_sorts g k) (right_sort (unary_operand o) (sort_in types f) (place_of f) (like_sort types k ∙ s))
  good_sorts (good_binary {o = o} h g g' s s' l l') (like_binary {g = f} {h = f'} k k') =
      nil_both _ _ (good_sorts g k) (nil_both _ _ (right_sort (operator o).operands (sort_in types f) (place_of f) (like_sort types k ∙ s))
      (nil_both _ _ (good_sorts g' k') (right_sort (operator o).operands (sort_in types f') (place_of f') (like_sort types k' ∙ s'))))
  good_sorts (good_select g g' g'' s s') (like_select {d = c} {g = e} {h = f} k k' k'') =
      nil_both _ _ (good_sorts g k) (nil_both _ _ (right_sort boolean_sort (sort_in types c) (place_of c) (like_sort types k ∙ s))
      (nil_both _ _ (good_sorts g' k') (nil_both _ _ (good_sorts g'' k'')
      (right_sort (sort_in types e) (sort_in types f) (place_of f) (like_sort types k'' ∙ s' ∙ sym (like_sort types k'))))))

  pub good_labels : (bounds : List ConstantLoop) {e f : Expression} → GoodExpression types arrays marks e → LikeExpression e f → label_faults types arrays bounds false f ≡ []
  unfolding label_faults
  good_labels bounds good_constant like_constant = refl
  good_labels bounds (good_boolean h) like_boolean = refl
  good_labels bounds (good_variable h m) like_variable = refl
  good_labels bounds (good_cell {a = a} h g s l) (like_cell {j = j} k) =
      nil_both _ _ (good_labels bounds g k) (nil_both _ _ (no_fault_lem (secret_in types arrays j) 10 (place_of j) (like_secret types arrays k ∙ l)) refl)
  good_labels bounds (good_unary {o = o} h g s) (like_unary k) = good_labels bounds g k
  good_labels bounds (good_binary {o = o} h g g' s s' l l') (like_binary {g = f} {h = f'} k k') =
      nil_both _ _ (good_labels bounds g k) (nil_both _ _ (good_labels bounds g' k')
      (nil_both _ _ (no_fault_lem (eqb (operator o).publics both && secret_in types arrays f) 10 (place_of f) (rw (like_secret types arrays k) l))
      (nil_both _ _ (no_fault_lem (leb right (operator o).publics && secret_in types arrays f') 10 (place_of f') (rw (like_secret types arrays k') l')) refl)))
  good_labels bounds (good_select g g' g'' s s') (like_select k k' k'') =
      nil_both _ _ (good_labels bounds g k) (nil_both _ _ (good_labels bounds g' k') (good_labels bounds g'' k''))

pub like_at : {ps qs : List Procedure} → LikeProcedures ps qs → (f : ℕ) → LikeProcedure (procedure_at ps f) (procedure_at qs f)
like_at like_empty f = record { modes = refl; parameters = refl; results = refl; types = refl; bodies = like_done }
like_at (like_next l ls) zero = l
like_at (like_next l ls) (suc f) = like_at ls f

module _ (types arrays marks callee : List ℕ) where
  good_argument_sorts :
      {k : ℕ} {es fs : List Expression} → GoodArguments types arrays marks callee k es → LikeAll es fs → argument_faults types (length arrays) marks callee k fs ≡ []
  unfolding argument_faults
  good_argument_sorts good_none like_none = refl
  good_argument_sorts (good_more {k} g s l gs) (like_more {f = f} x xs) =
      nil_both _ _ (nil_both _ _ (good_sorts types arrays marks g x) (right_sort (sort_of callee k) (sort_in types f) (place_of f) (like_sort types x ∙ s)))
      (good_argument_sorts gs xs)

  good_argument_labels :
      (bounds : List ConstantLoop) {k : ℕ} {es fs : List Expression} → GoodArguments types arrays marks callee k es → LikeAll es fs
      → argument_label_faults types arrays bounds false callee k fs ≡ []
  unfolding argument_label_faults
  good_argument_labels bounds good_none like_none = refl
  good_argument_labels bounds (good_more {k} g s l gs) (like_more {f = f} x xs) =
      nil_both _ _ (good_labels types arrays marks bounds g x)
      (nil_both _ _ (no_fault_lem (secret_in types arrays f && not (type_secret (get_or callee k 0))) 9 (place_of f) (rw (like_secret types arrays x) l))
      (good_argument_labels bounds gs xs))

module _ (ps qs : List Procedure) (same : LikeProcedures ps qs) (me parameters : ℕ) (types : List ℕ) (result : ℕ) (arrays : List ℕ) where
  operand_sorts :
      (marks : List ℕ) {e f : Expression} (want : ℕ) → GoodExpression types arrays marks e → LikeExpression e f → sort_in types e ≡ want
      → operand_faults types (length arrays) marks want f ≡ []
  operand_sorts marks {f = f} want g x s = nil_both _ _ (good_sorts types arrays marks g x) (right_sort want (sort_in types f) (place_of f) (like_sort types x ∙ s))

  unmarked : (marks : List ℕ) (x p : ℕ) → eqb (get_or marks x 0) ordinary ≡ true → fault_if (not (eqb (get_or marks x 0) ordinary)) 8 p ≡ []
  unmarked marks x p m = rw m

  mutual
    unfolding statement_sort_faults block_sort_faults

    pub good_statement_sorts :
        {marks : List ℕ} {s t : Statement} → GoodStatement ps me parameters types result arrays marks s → LikeStatement s t → (p : ℕ)
        → statement_sort_faults qs parameters types result (length arrays) marks p t ≡ []
    good_statement_sorts (good_assign {marks} {x} h m g s l) (like_assign e) p =
        nil_both _ _ (no_fault_lem (leb (length types) x) 6 p (lt-leb (length types) x h)) (nil_both _ _ (unmarked marks x p m) (operand_sorts marks (sort_of types x) g e s))
    good_statement_sorts (good_store {marks} {a} h g g' s s' l l') (like_store i e) p =
        nil_both _ _ (no_fault_lem (leb (length arrays) a) 6 p (lt-leb (length arrays) a h)) (nil_both _ _ (operand_sorts marks word_sort g i s) (operand_sorts marks word_sort g' e s'))
    good_statement_sorts (good_conditional {marks} g s l x y) (like_conditional c a b) p =
        nil_both _ _ (operand_sorts marks boolean_sort g c s) (nil_both _ _ (good_block_sorts x a) (good_block_sorts y b))
    good_statement_sorts (good_loop {marks} {x} h r g g' s s' l l' z) (like_loop f t b) p =
        nil_both _ _ (no_fault_lem (leb (length types) x) 6 p (lt-leb (length types) x h))
        (nil_both _ _ (no_fault_lem (ltb x parameters || (type_secret (get_or types x 0) || (eqb (type_sort (get_or types x 0)) boolean_sort || eqb (get_or marks x 0) inside))) 8 p r)
        (nil_both _ _ (operand_sorts marks word_sort g f s) (nil_both _ _ (operand_sorts marks word_sort g' t s') (good_block_sorts z b))))
    good_statement_sorts (good_return {marks} g s l) (like_return e) p = operand_sorts marks (type_sort result) g e s
    good_statement_sorts (good_call {marks} {f} {x} low h m s l c g) (like_call es) p =
        nil_both _ _ (no_fault_lem (leb (length types) x) 6 p (lt-leb (length types) x h))
        (nil_both _ _ (unmarked marks x p m)
        (rw (sym (like_at same f).results, sym (like_at same f).types)
        (nil_both _ _ (right_sort (type_sort (procedure_at ps f).result) (sort_of types x) p s) (good_argument_sorts types arrays marks (procedure_at ps f).types g es))))

    pub good_block_sorts :
        {marks : List ℕ} {b c : Block} → GoodBlock ps me parameters types result arrays marks b → LikeBlock b c
        → block_sort_faults qs parameters types result (length arrays) marks c ≡ []
    good_block_sorts good_done like_done = refl
    good_block_sorts (good_step g gs) (like_step {q = q} s b) = nil_both _ _ (good_statement_sorts g s q) (good_block_sorts gs b)

  -- rc stays public
  mutual
    unfolding rc_after rc_after_block

    pub good_rc : {marks : List ℕ} {s t : Statement} → GoodStatement ps me parameters types result arrays marks s → LikeStatement s t → rc_after types arrays false false t ≡ false
    good_rc (good_assign h m g s l) (like_assign e) = refl
    good_rc (good_store h g g' s s' l l') (like_store i e) = refl
    good_rc (good_conditional g s l x y) (like_conditional c a b) = rw (like_secret types arrays c, l, good_rcs x a, good_rcs y b)
    good_rc (good_loop h r g g' s s' l l' z) (like_loop f t b) = good_rcs z b
    good_rc (good_return g s l) (like_return e) = refl
    good_rc (good_call low h m s l c g) (like_call es) = refl

    pub good_rcs : {marks : List ℕ} {b c : Block} → GoodBlock ps me parameters types result arrays marks b → LikeBlock b c → rc_after_block types arrays false false c ≡ false
    good_rcs good_done like_done = refl
    good_rcs (good_step g gs) (like_step s b) = rw (good_rc g s) (good_rcs gs b)

  bound_labels :
      (marks : List ℕ) (bounds : List ConstantLoop) {e f : Expression} → GoodExpression types arrays marks e → LikeExpression e f → secret_in types arrays e ≡ false
      → loop_bound_faults types arrays bounds false f ≡ []
  bound_labels marks bounds {f = f} g x l = nil_both _ _ (good_labels types arrays marks bounds g x)
      (nil_both _ _ (no_fault_lem (secret_in types arrays f) 10 (place_of f) (like_secret types arrays x ∙ l)) refl)

  flow : (c b d : Bool) (p : ℕ) → c ≡ b → (b && d) ≡ false → fault_if ((c || false) && d) 9 p ≡ []
  flow true b d p e h = no_fault_lem d 9 p (rw (sym e) at h)
  flow false b d p e h = refl

  mutual
    unfolding statement_label_faults block_label_faults

    pub good_statement_labels :
        {marks : List ℕ} {s t : Statement} → GoodStatement ps me parameters types result arrays marks s → LikeStatement s t → (bounds : List ConstantLoop) (p : ℕ)
        → statement_label_faults 1 qs arrays types result bounds false false p t ≡ []
    good_statement_labels (good_assign {marks} {x} {e} h m g s l) (like_assign {f = f} k) bounds p =
        nil_both _ _ (flow (secret_in types arrays f) (secret_in types arrays e) (not (type_secret (get_or types x 0))) p (like_secret types arrays k) l)
        (good_labels types arrays marks bounds g k)
    good_statement_labels (good_store {marks} {a} {i} {e} h g g' s s' l l') (like_store {j = j} {f = f} k k') bounds p =
        nil_both _ _ (flow (secret_in types arrays f) (secret_in types arrays e) (not (array_secret (get_or arrays a 0))) p (like_secret types arrays k') l')
        (nil_both _ _ (good_labels types arrays marks bounds g k)
        (nil_both _ _ (nil_both _ _ (no_fault_lem (secret_in types arrays j) 10 (place_of j) (like_secret types arrays k ∙ l)) refl) (good_labels types arrays marks bounds g' k')))
    good_statement_labels (good_conditional {marks} g s l x y) (like_conditional {d = d} c a b) bounds p =
        rw (like_secret types arrays c ∙ l)
        (nil_both _ _ (good_labels types arrays marks bounds g c) (nil_both _ _ (good_block_labels x a bounds) (good_block_labels y b bounds)))
    good_statement_labels (good_loop {marks} {x} h r g g' s s' l l' z) (like_loop {g = f} {u = t} k k' b) bounds p =
        rw (good_rcs z b)
        (nil_both _ _ (bound_labels marks bounds g k l) (nil_both _ _ (bound_labels marks bounds g' k' l') (good_block_labels z b (bounds_inside bounds x f t))))
    good_statement_labels (good_return {marks} {e} g s l) (like_return {f = f} k) bounds p =
        nil_both _ _ (flow (secret_in types arrays f) (secret_in types arrays e) (not (type_secret result)) p (like_secret types arrays k) l)
        (good_labels types arrays marks bounds g k)
    good_statement_labels (good_call {marks} {f} {x} low h m s l c g) (like_call es) bounds p =
        rw (sym (like_at same f).results, sym (like_at same f).types)
        (nil_both _ _ (flow (type_secret (procedure_at ps f).result) (type_secret (procedure_at ps f).result) (not (type_secret (get_or types x 0))) p refl l)
        (good_argument_labels types arrays marks (procedure_at ps f).types bounds g es))

    pub good_block_labels :
        {marks : List ℕ} {b c : Block} → GoodBlock ps me parameters types result arrays marks b → LikeBlock b c → (bounds : List ConstantLoop)
        → block_label_faults 1 qs arrays types result bounds false false c ≡ []
    good_block_labels good_done like_done bounds = refl
    good_block_labels (good_step g gs) (like_step {q = q} s b) bounds = nil_both _ _ (good_statement_labels g s bounds q) (rw (good_rc g s) (good_block_labels gs b bounds))
