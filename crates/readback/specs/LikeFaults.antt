-- Trees that are the same up to the places of their words break the same rules: their faults have the same numbers, in the same order.
-- Assumes nothing.
use Rattle.std.specs.Prelude.{ℕ, ◌+◌, Bool, true, ◌||◌, ◌≡◌, refl, length, get_or, set, replicate}
use Rattle.std.proofs.Math.Bool.{false}
use mathlib.Core.List.{List, [], ◌∷◌, ◌++◌, flat_map}
use Rattle.std.proofs.Math.Path.{sym}
use Rattle.definitions.specs.declared.Fault.{Fault}
use Rattle.definitions.specs.declared.ConstantLoop.{ConstantLoop}
use Rattle.definitions.specs.Image.{Expression, Statement, Block, Procedure, Image, procedure_at, array_length, guarded}
use Rattle.definitions.specs.Faults.{fault_if}
use Rattle.definitions.specs.Sorts.{inside, ordinary, sort_faults, argument_faults, statement_sort_faults, block_sort_faults}
use Rattle.definitions.specs.Sorts.{mark_block, procedure_sort_faults, procedures_sort_faults, image_sort_faults}
use Rattle.definitions.specs.Labels.{is_constant, constant_value, secret_in, rc_after, rc_after_block, bounded_sum, bounded_index, label_faults}
use Rattle.definitions.specs.Labels.{argument_label_faults, loop_bound_faults, statement_label_faults, block_label_faults}
use Rattle.definitions.specs.Labels.{unbounded, bounds_inside, procedure_label_faults, procedures_label_faults, image_label_faults}
use Rattle.readback.specs.Like.{LikeExpression, like_constant, like_boolean, like_variable, like_cell, like_unary}
use Rattle.readback.specs.Like.{like_binary, like_select, LikeAll, like_none, like_more, LikeStatement}
use Rattle.readback.specs.Like.{like_assign, like_store, like_conditional, like_loop, like_return, like_call}
use Rattle.readback.specs.Like.{LikeBlock, like_done, like_step, LikeProcedure, LikeProcedures, like_empty}
use Rattle.readback.specs.Like.{like_next, LikeImage}
use Rattle.readback.specs.Accepted.{like_sort, like_secret, like_marks, like_at}

-- faults of the same numbers, in the same order
pub data SameNumbers : List Fault → List Fault → Type 0 where
  same_none : SameNumbers [] []
  same_more : {f g : Fault} {fs gs : List Fault} → f.number ≡ g.number → SameNumbers fs gs → SameNumbers (f ∷ fs) (g ∷ gs)

pub same_empty : {fs gs : List Fault} → SameNumbers fs gs → fs ≡ [] → gs ≡ []
same_empty same_none e = refl
same_empty (same_more n r) e = cc

same_append : {fs gs hs is : List Fault} → SameNumbers fs gs → SameNumbers hs is → SameNumbers (fs ++ hs) (gs ++ is)
same_append same_none y = y
same_append (same_more n x) y = same_more n (same_append x y)

same_if : (c : Bool) (n p q : ℕ) → SameNumbers (fault_if c n p) (fault_if c n q)
same_if true n p q = same_more refl same_none
same_if false n p q = same_none

ruleset same = (same_append, same_if)

-- ---- 6 to 8

module _ (types : List ℕ) (arrays : ℕ) where
  same_sorts : (marks : List ℕ) {e f : Expression} → LikeExpression e f → SameNumbers (sort_faults types arrays marks e) (sort_faults types arrays marks f)
  unfolding sort_faults
  same_sorts marks like_constant = same_none
  same_sorts marks like_boolean = same_none
  same_sorts marks like_variable = search same
  same_sorts marks (like_cell i) = let x = same_sorts marks i in rw (like_sort types i) (search same)
  same_sorts marks (like_unary e) = let x = same_sorts marks e in rw (like_sort types e) (search same)
  same_sorts marks (like_binary e f) =
      let x = same_sorts marks e in let y = same_sorts marks f in rw (like_sort types e, like_sort types f) (search same)
  same_sorts marks (like_select c e f) =
      let x = same_sorts marks c in
      let y = same_sorts marks e in
      let z = same_sorts marks f in rw (like_sort types c, like_sort types e, like_sort types f) (search same depth 8)

  same_arguments : (marks callee : List ℕ) (k : ℕ) {es fs : List Expression} → LikeAll es fs
      → SameNumbers (argument_faults types arrays marks callee k es) (argument_faults types arrays marks callee k fs)
  unfolding argument_faults
  same_arguments marks callee k like_none = same_none
  same_arguments marks callee k (like_more e es) =
      let x = same_sorts marks e in let y = same_arguments marks callee (k + 1) es in rw (like_sort types e) (search same)

module _ {ps qs : List Procedure} (alike : LikeProcedures ps qs) (parameters : ℕ) (types : List ℕ) (result arrays : ℕ) where
  mutual
    unfolding statement_sort_faults block_sort_faults

    same_statement_sorts : (marks : List ℕ) {s t : Statement} (p q : ℕ) → LikeStatement s t
        → SameNumbers (statement_sort_faults ps parameters types result arrays marks p s) (statement_sort_faults qs parameters types result arrays marks q t)
    same_statement_sorts marks p q (like_assign e) = let x = same_sorts types arrays marks e in rw (like_sort types e) (search same)
    same_statement_sorts marks p q (like_store i e) =
        let x = same_sorts types arrays marks i in
        let y = same_sorts types arrays marks e in rw (like_sort types i, like_sort types e) (search same)
    same_statement_sorts marks p q (like_conditional c a b) =
        let x = same_sorts types arrays marks c in
        let y = same_block_sorts marks a in
        let z = same_block_sorts marks b in rw (like_sort types c) (search same)
    same_statement_sorts marks p q (like_loop {x = v} f t b) =
        let x = same_sorts types arrays marks f in
        let y = same_sorts types arrays marks t in
        let z = same_block_sorts (set marks v inside) b in rw (like_sort types f, like_sort types t) (search same depth 8)
    same_statement_sorts marks p q (like_return e) = let x = same_sorts types arrays marks e in rw (like_sort types e) (search same)
    same_statement_sorts marks p q (like_call {f = f} es) =
        let x = same_arguments types arrays marks (procedure_at ps f).types 0 es in
        rw (sym (like_at alike f).results, sym (like_at alike f).types) (search same)

    same_block_sorts : (marks : List ℕ) {b c : Block} → LikeBlock b c
        → SameNumbers (block_sort_faults ps parameters types result arrays marks b) (block_sort_faults qs parameters types result arrays marks c)
    same_block_sorts marks like_done = same_none
    same_block_sorts marks (like_step {p} {q} s b) = same_append (same_statement_sorts marks p q s) (same_block_sorts marks b)

module _ {ps qs : List Procedure} (alike : LikeProcedures ps qs) (arrays : ℕ) where
  same_procedure_sorts : (p q : Procedure) → LikeProcedure p q → SameNumbers (procedure_sort_faults ps arrays p) (procedure_sort_faults qs arrays q)
  unfolding procedure_sort_faults
  same_procedure_sorts p q l =
      rw (sym l.parameters, sym l.types, sym l.results, like_marks l.bodies (replicate 256 ordinary))
      (same_block_sorts alike p.parameters p.types p.result arrays (mark_block p.body (replicate 256 ordinary)) l.bodies)

  same_procedures_sorts : {rs ss : List Procedure} → LikeProcedures rs ss → SameNumbers (procedures_sort_faults ps arrays rs) (procedures_sort_faults qs arrays ss)
  unfolding procedures_sort_faults flat_map
  same_procedures_sorts like_empty = same_none
  same_procedures_sorts (like_next {p} {q} l ls) = same_append (same_procedure_sorts p q l) (same_procedures_sorts ls)

-- ---- 9 to 13

same_constant : {e f : Expression} → LikeExpression e f → is_constant f ≡ is_constant e
unfolding is_constant
same_constant like_constant = refl
same_constant like_boolean = refl
same_constant like_variable = refl
same_constant (like_cell i) = refl
same_constant (like_unary e) = refl
same_constant (like_binary e f) = refl
same_constant (like_select c e f) = refl

same_value : {e f : Expression} → LikeExpression e f → constant_value f ≡ constant_value e
unfolding constant_value
same_value like_constant = refl
same_value like_boolean = refl
same_value like_variable = refl
same_value (like_cell i) = refl
same_value (like_unary e) = refl
same_value (like_binary e f) = refl
same_value (like_select c e f) = refl

same_sum : (bounds : List ConstantLoop) (size : ℕ) {i j c d : Expression} → LikeExpression i j → LikeExpression c d
    → bounded_sum bounds size j d ≡ bounded_sum bounds size i c
unfolding bounded_sum
same_sum bounds size like_constant d = refl
same_sum bounds size like_boolean d = refl
same_sum bounds size like_variable d = rw (same_constant d, same_value d)
same_sum bounds size (like_cell i) d = refl
same_sum bounds size (like_unary e) d = refl
same_sum bounds size (like_binary e f) d = refl
same_sum bounds size (like_select c e f) d = refl

same_bounded : (bounds : List ConstantLoop) (size : ℕ) {e f : Expression} → LikeExpression e f → bounded_index bounds size f ≡ bounded_index bounds size e
unfolding bounded_index
same_bounded bounds size like_constant = refl
same_bounded bounds size like_boolean = refl
same_bounded bounds size like_variable = refl
same_bounded bounds size (like_cell i) = refl
same_bounded bounds size (like_unary e) = refl
same_bounded bounds size (like_binary e f) = rw (same_sum bounds size e f, same_sum bounds size f e)
same_bounded bounds size (like_select c e f) = refl

module _ (types arrays : List ℕ) where
  mutual
    unfolding rc_after rc_after_block

    pub same_rc : (pc rc : Bool) {s t : Statement} → LikeStatement s t → rc_after types arrays pc rc t ≡ rc_after types arrays pc rc s
    same_rc pc rc (like_assign e) = refl
    same_rc pc rc (like_store i e) = refl
    same_rc pc rc (like_conditional {c = d} c a b) =
        rw (like_secret types arrays c, same_rc_block (pc || secret_in types arrays d) rc a, same_rc_block (pc || secret_in types arrays d) rc b)
    same_rc pc rc (like_loop f t b) = same_rc_block pc rc b
    same_rc pc rc (like_return e) = refl
    same_rc pc rc (like_call es) = refl

    pub same_rc_block : (pc rc : Bool) {b c : Block} → LikeBlock b c → rc_after_block types arrays pc rc c ≡ rc_after_block types arrays pc rc b
    same_rc_block pc rc like_done = refl
    same_rc_block pc rc (like_step {s = s} x y) = rw (same_rc pc rc x) (same_rc_block pc (rc_after types arrays pc rc s) y)

  module _ (bounds : List ConstantLoop) (context : Bool) where
    same_labels : {e f : Expression} → LikeExpression e f → SameNumbers (label_faults types arrays bounds context e) (label_faults types arrays bounds context f)
    unfolding label_faults
    same_labels like_constant = same_none
    same_labels like_boolean = same_none
    same_labels like_variable = same_none
    same_labels (like_cell {a = a} i) =
        let x = same_labels i in rw (like_secret types arrays i, same_bounded bounds (array_length (get_or arrays a 0)) i) (search same)
    same_labels (like_unary e) = same_labels e
    same_labels (like_binary e f) =
        let x = same_labels e in
        let y = same_labels f in rw (like_secret types arrays e, like_secret types arrays f, same_value f) (search same)
    same_labels (like_select c e f) = same_append (same_labels c) (same_append (same_labels e) (same_labels f))

    same_argument_labels : (callee : List ℕ) (k : ℕ) {es fs : List Expression} → LikeAll es fs
        → SameNumbers (argument_label_faults types arrays bounds context callee k es) (argument_label_faults types arrays bounds context callee k fs)
    unfolding argument_label_faults
    same_argument_labels callee k like_none = same_none
    same_argument_labels callee k (like_more e es) =
        let x = same_labels e in let y = same_argument_labels callee (k + 1) es in rw (like_secret types arrays e) (search same)

    same_bound_labels : {e f : Expression} → LikeExpression e f
        → SameNumbers (loop_bound_faults types arrays bounds context e) (loop_bound_faults types arrays bounds context f)
    same_bound_labels e = let x = same_labels e in rw (like_secret types arrays e, same_constant e) (search same)

module _ (form : ℕ) {ps qs : List Procedure} (alike : LikeProcedures ps qs) (arrays types : List ℕ) (result : ℕ) where
  mutual
    unfolding statement_label_faults block_label_faults

    same_statement_labels : (bounds : List ConstantLoop) (pc rc : Bool) {s t : Statement} (p q : ℕ) → LikeStatement s t
        → SameNumbers (statement_label_faults form ps arrays types result bounds pc rc p s) (statement_label_faults form qs arrays types result bounds pc rc q t)
    same_statement_labels bounds pc rc p q (like_assign e) =
        let x = same_labels types arrays bounds (pc || rc) e in rw (like_secret types arrays e) (search same)
    same_statement_labels bounds pc rc p q (like_store {a = a} i e) =
        let x = same_labels types arrays bounds (pc || rc) i in
        let y = same_labels types arrays bounds (pc || rc) e in
        rw (like_secret types arrays i, same_bounded bounds (array_length (get_or arrays a 0)) i, like_secret types arrays e) (search same)
    same_statement_labels bounds pc rc p q (like_conditional {c = d} c a b) =
        let x = same_labels types arrays bounds (pc || rc) c in
        let y = same_block_labels bounds (pc || secret_in types arrays d) rc a in
        let z = same_block_labels bounds (pc || secret_in types arrays d) rc b in rw (like_secret types arrays c) (search same)
    same_statement_labels bounds pc rc p q (like_loop {x = v} {f} {t} {b = b} k l m) =
        let x = same_bound_labels types arrays bounds (pc || rc) k in
        let y = same_bound_labels types arrays bounds (pc || rc) l in
        let z = same_block_labels (bounds_inside bounds v f t) pc (rc_after_block types arrays pc rc b) m in
        same_append x (same_append y (rw (same_constant k, same_constant l, same_value k, same_value l, same_rc_block types arrays pc rc m) z))
    same_statement_labels bounds pc rc p q (like_return e) =
        let x = same_labels types arrays bounds (pc || rc) e in rw (like_secret types arrays e) (search same)
    same_statement_labels bounds pc rc p q (like_call {f = f} es) =
        let x = same_argument_labels types arrays bounds (pc || rc) (procedure_at ps f).types 0 es in
        rw (sym (like_at alike f).results, sym (like_at alike f).types, sym (like_at alike f).modes) (search same)

    same_block_labels : (bounds : List ConstantLoop) (pc rc : Bool) {b c : Block} → LikeBlock b c
        → SameNumbers (block_label_faults form ps arrays types result bounds pc rc b) (block_label_faults form qs arrays types result bounds pc rc c)
    same_block_labels bounds pc rc like_done = same_none
    same_block_labels bounds pc rc (like_step {p} {q} {s} x y) =
        same_append (same_statement_labels bounds pc rc p q x)
        (rw (same_rc types arrays pc rc x) (same_block_labels bounds pc (rc_after types arrays pc rc s) y))

-- ---- images

module _ {i j : Image} (l : LikeImage i j) where
  same_procedure_labels : (p q : Procedure) → LikeProcedure p q → SameNumbers (procedure_label_faults i p) (procedure_label_faults j q)
  unfolding procedure_label_faults
  same_procedure_labels p q k =
      rw (sym l.forms, sym l.arrays, sym k.types, sym k.results, sym k.modes)
      (same_block_labels i.form l.procedures i.arrays p.types p.result (replicate 256 unbounded) (guarded p) false k.bodies)

  same_procedures_labels : {rs ss : List Procedure} → LikeProcedures rs ss → SameNumbers (procedures_label_faults i rs) (procedures_label_faults j ss)
  unfolding procedures_label_faults flat_map
  same_procedures_labels like_empty = same_none
  same_procedures_labels (like_next {p} {q} k ks) = same_append (same_procedure_labels p q k) (same_procedures_labels ks)

  pub same_sort_faults : SameNumbers (image_sort_faults i) (image_sort_faults j)
  unfolding image_sort_faults
  same_sort_faults = rw (sym l.arrays) (same_procedures_sorts l.procedures (length i.arrays) l.procedures)

  pub same_label_faults : SameNumbers (image_label_faults i) (image_label_faults j)
  unfolding image_label_faults
  same_label_faults = same_procedures_labels l.procedures
