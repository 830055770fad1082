-- Trees that are the same up to the places of their words are compiled to trees that are: the words of the compiled image are the same.
-- Assumes nothing.
use Rattle.std.specs.Prelude.{ℕ, ◌+◌, Bool, true, ◌||◌, ◌≡◌, refl}
use Rattle.std.proofs.Math.Bool.{false}
use mathlib.Core.List.{List, [], ◌∷◌, ◌++◌, map}
use Rattle.std.proofs.Math.Path.{sym}
use Rattle.definitions.specs.Choice.{pick}
use Rattle.definitions.specs.Operators.{word_sort, boolean_sort}
use Rattle.definitions.specs.Image.{Expression, constant, boolean, variable, cell, unary, binary, select, Statement}
use Rattle.definitions.specs.Image.{Block, done, sequence, Procedure, Image, procedure_at, guarded, type_sort}
use Rattle.definitions.specs.Labels.{secret_in, rc_after, rc_after_block}
use Rattle.definitions.specs.Encoding.{image_words}
use Rattle.definitions.specs.Compiling.{renamed, moved, moved_all, act, masked, under, followed_by, statement_nesting}
use Rattle.definitions.specs.Compiling.{block_nesting, statement_needs, block_needs, ArmCode, compiled_if, compiled_return}
use Rattle.definitions.specs.Compiling.{compiled_call, compiled_statement, compiled_block, return_variable, first_pair, first_moved}
use Rattle.definitions.specs.Compiling.{defers, closed, temporary_of, compiled_types, compiled_body, compiled_procedure}
use Rattle.definitions.specs.Compiling.{compiled_procedures, compiled_image, fit_locals, fits}
use Rattle.readback.specs.Like.{LikeExpression, like_constant, like_boolean, like_variable, like_cell, like_unary}
use Rattle.readback.specs.Like.{like_binary, like_select, LikeAll, like_none, like_more, LikeStatement}
use Rattle.readback.specs.Like.{like_assign, like_store, like_conditional, like_loop, like_return, like_call}
use Rattle.readback.specs.Like.{LikeBlock, like_done, like_step, LikeProcedure, LikeProcedures, like_empty}
use Rattle.readback.specs.Like.{like_next, LikeImage, like_image_words}
use Rattle.readback.specs.Accepted.{like_secret, like_at}
use Rattle.readback.specs.LikeFaults.{same_rc, same_rc_block}

-- ---- expressions

like_itself : (e : Expression) → LikeExpression e e
like_itself (constant p v) = like_constant
like_itself (boolean p v) = like_boolean
like_itself (variable p x) = like_variable
like_itself (cell p a i) = like_cell (like_itself i)
like_itself (unary p o e) = like_unary (like_itself e)
like_itself (binary p o e f) = like_binary (like_itself e) (like_itself f)
like_itself (select p c e f) = like_select (like_itself c) (like_itself e) (like_itself f)

like_append : {es fs gs hs : List Expression} → LikeAll es fs → LikeAll gs hs → LikeAll (es ++ gs) (fs ++ hs)
like_append like_none y = y
like_append (like_more e x) y = like_more e (like_append x y)

like_moved : (first : ℕ) {e f : Expression} → LikeExpression e f → LikeExpression (moved first e) (moved first f)
unfolding moved
like_moved first like_constant = like_constant
like_moved first like_boolean = like_boolean
like_moved first like_variable = like_variable
like_moved first (like_cell i) = like_cell (like_moved first i)
like_moved first (like_unary e) = like_unary (like_moved first e)
like_moved first (like_binary e f) = like_binary (like_moved first e) (like_moved first f)
like_moved first (like_select c e f) = like_select (like_moved first c) (like_moved first e) (like_moved first f)

like_moved_all : (first : ℕ) {es fs : List Expression} → LikeAll es fs → LikeAll (moved_all first es) (moved_all first fs)
unfolding moved_all map
like_moved_all first like_none = like_none
like_moved_all first (like_more e es) = like_more (like_moved first e) (like_moved_all first es)

like_masked : (context : Bool) (a : Expression) {e f old old' : Expression} → LikeExpression e f → LikeExpression old old'
    → LikeExpression (masked context a e old) (masked context a f old')
unfolding masked
like_masked true a e o = like_select (like_itself a) e o
like_masked false a e o = e

like_under : (context : Bool) (a : Expression) {e f : Expression} → LikeExpression e f → LikeExpression (under context a e) (under context a f)
unfolding under
like_under true a e = like_binary (like_itself a) e
like_under false a e = e

-- ---- statements

like_followed : {a b c d : Block} → LikeBlock a b → LikeBlock c d → LikeBlock (followed_by a c) (followed_by b d)
unfolding followed_by
like_followed like_done y = y
like_followed (like_step s x) y = like_step s (like_followed x y)

like_one : {s t : Statement} (p q : ℕ) → LikeStatement s t → LikeBlock (sequence p s done) (sequence q t done)
like_one p q x = like_step x like_done

like_if : (secret pc : Bool) (arm : ℕ) (rc : Bool) (live k : ℕ) {c d : Expression} {a b a' b' : ArmCode} → LikeExpression c d
    → ((q : Bool) (v n : ℕ) → LikeBlock (a q v n) (a' q v n)) → ((q : Bool) (v n : ℕ) → LikeBlock (b q v n) (b' q v n))
    → LikeBlock (compiled_if secret pc arm rc live k c a b) (compiled_if secret pc arm rc live k d a' b')
unfolding compiled_if
like_if true pc arm rc live k x y z =
    like_step (like_assign (like_under (pc || rc) (act pc arm rc live) x))
    (like_step (like_assign (like_itself _)) (like_followed (y true k (k + 2)) (z true (k + 1) (k + 2))))
like_if false pc arm rc live k x y z = like_one 0 0 (like_conditional x (y pc arm k) (z pc arm k))

like_return_code : (context : Bool) (a : Expression) (rv : ℕ) {e f : Expression} → LikeExpression e f
    → LikeBlock (compiled_return context a rv e) (compiled_return context a rv f)
unfolding compiled_return
like_return_code true a rv x =
    like_step (like_assign (like_select (like_itself a) x like_variable))
    (like_one 0 0 (like_assign (like_select (like_itself a) like_boolean like_variable)))
like_return_code false a rv x = like_one 0 0 (like_return x)

like_call_code : (context guard : Bool) (a : Expression) (k f x : ℕ) {es fs : List Expression} → LikeAll es fs
    → LikeBlock (compiled_call context guard a k f x es) (compiled_call context guard a k f x fs)
unfolding compiled_call
like_call_code true guard a k f x l =
    like_step (like_call (like_append l (like_more (like_itself a) like_none)))
    (like_one 0 0 (like_assign (like_select (like_itself a) like_variable like_variable)))
like_call_code false guard a k f x l = like_one 0 0 (like_call (like_append l (last guard)))
  where
    last : (b : Bool) → LikeAll (pick b (boolean 0 1 ∷ []) []) (pick b (boolean 0 1 ∷ []) [])
    last true = like_more like_boolean like_none
    last false = like_none

module _ (arrays types : List ℕ) where
  mutual
    unfolding statement_nesting block_nesting

    like_nesting : {s t : Statement} → LikeStatement s t → statement_nesting arrays types t ≡ statement_nesting arrays types s
    like_nesting (like_assign e) = refl
    like_nesting (like_store i e) = refl
    like_nesting (like_conditional c a b) = rw (like_secret types arrays c, like_block_nesting a, like_block_nesting b)
    like_nesting (like_loop f t m) = like_block_nesting m
    like_nesting (like_return e) = refl
    like_nesting (like_call es) = refl

    like_block_nesting : {b c : Block} → LikeBlock b c → block_nesting arrays types c ≡ block_nesting arrays types b
    like_block_nesting like_done = refl
    like_block_nesting (like_step x y) = rw (like_nesting x, like_block_nesting y)

module _ {ps qs : List Procedure} (alike : LikeProcedures ps qs) (arrays types : List ℕ) where
  module _ (sort : ℕ) where
    mutual
      unfolding statement_needs block_needs

      like_needs : (pc rc : Bool) {s t : Statement} → LikeStatement s t
          → statement_needs qs arrays types sort pc rc t ≡ statement_needs ps arrays types sort pc rc s
      like_needs pc rc (like_assign e) = refl
      like_needs pc rc (like_store i e) = refl
      like_needs pc rc (like_conditional {c = d} c a b) =
          rw (
            like_secret types arrays c,
            like_block_needs (pc || secret_in types arrays d) rc a,
            like_block_needs (pc || secret_in types arrays d) rc b,
          )
      like_needs pc rc (like_loop {b = b} f t m) =
          rw (same_rc_block types arrays pc rc m) (like_block_needs pc (rc_after_block types arrays pc rc b) m)
      like_needs pc rc (like_return e) = refl
      like_needs pc rc (like_call {f = f} es) = rw (sym (like_at alike f).results)

      like_block_needs : (pc rc : Bool) {b c : Block} → LikeBlock b c
          → block_needs qs arrays types sort pc rc c ≡ block_needs ps arrays types sort pc rc b
      like_block_needs pc rc like_done = refl
      like_block_needs pc rc (like_step {s = s} x y) =
          rw (like_needs pc rc x, same_rc types arrays pc rc x, like_block_needs pc (rc_after types arrays pc rc s) y)

  module _ (first rv : ℕ) (temporary : ℕ → ℕ) where
    mutual
      unfolding compiled_statement compiled_block

      like_statement_code : {s t : Statement} → LikeStatement s t → (pc : Bool) (arm : ℕ) (rc : Bool) (k : ℕ)
          → LikeBlock (compiled_statement ps arrays types first rv temporary s pc arm rc k) (compiled_statement qs arrays types first rv temporary t pc arm rc k)
      like_statement_code (like_assign e) pc arm rc k =
          like_one 0 0 (like_assign (like_masked (pc || rc) (act pc arm rc (rv + 1)) (like_moved first e) like_variable))
      like_statement_code (like_store i e) pc arm rc k =
          like_one 0 0 (like_store (like_moved first i)
          (like_masked (pc || rc) (act pc arm rc (rv + 1)) (like_moved first e) (like_cell (like_moved first i))))
      like_statement_code (like_conditional {c = d} c x y) pc arm rc k =
          rw (like_secret types arrays c)
          (like_if (secret_in types arrays d) pc arm rc (rv + 1) k (like_moved first c) (λ q v n. like_block_code x q v rc n) (λ q v n. like_block_code y q v rc n))
      like_statement_code (like_loop {b = b} f t m) pc arm rc k =
          rw (same_rc_block types arrays pc rc m)
          (like_one 0 0 (like_loop (like_moved first f) (like_moved first t) (like_block_code m pc arm (rc_after_block types arrays pc rc b) k)))
      like_statement_code (like_return e) pc arm rc k = like_return_code (pc || rc) (act pc arm rc (rv + 1)) rv (like_moved first e)
      like_statement_code (like_call {f = f} {x} es) pc arm rc k =
          rw (sym (like_at alike f).modes, sym (like_at alike f).results)
          (like_call_code (pc || rc) (guarded (procedure_at ps f)) (act pc arm rc (rv + 1)) (temporary (type_sort (procedure_at ps f).result)) f (renamed first x)
          (like_moved_all first es))

      like_block_code : {b c : Block} → LikeBlock b c → (pc : Bool) (arm : ℕ) (rc : Bool) (k : ℕ)
          → LikeBlock (compiled_block ps arrays types first rv temporary b pc arm rc k) (compiled_block qs arrays types first rv temporary c pc arm rc k)
      like_block_code like_done pc arm rc k = like_done
      like_block_code (like_step {s = s} x y) pc arm rc k =
          rw (same_rc types arrays pc rc x) (like_followed (like_statement_code x pc arm rc k) (like_block_code y pc arm (rc_after types arrays pc rc s) k))

-- ---- procedures and images

like_closed : (deferred : Bool) (rv : ℕ) {b c : Block} → LikeBlock b c → LikeBlock (closed deferred rv b) (closed deferred rv c)
unfolding closed
like_closed true rv x = like_step (like_assign like_boolean) (like_followed x (like_one 0 0 (like_return like_variable)))
like_closed false rv x = x

module _ {ps qs : List Procedure} (alike : LikeProcedures ps qs) (arrays : List ℕ) where
  like_types : (p q : Procedure) → LikeProcedure p q → compiled_types ps arrays p ≡ compiled_types qs arrays q
  unfolding compiled_types
  like_types p q l =
      rw (
        sym l.types,
        sym l.parameters,
        sym l.results,
        sym l.modes,
        same_rc_block p.types arrays (guarded p) false l.bodies,
        like_block_nesting arrays p.types l.bodies,
        like_block_needs alike arrays p.types word_sort (guarded p) false l.bodies,
        like_block_needs alike arrays p.types boolean_sort (guarded p) false l.bodies,
      )

  like_temporary : (p q : Procedure) → LikeProcedure p q → (sort : ℕ) → temporary_of qs arrays q sort ≡ temporary_of ps arrays p sort
  like_temporary p q l sort =
      rw (
        sym l.types,
        sym l.modes,
        same_rc_block p.types arrays (guarded p) false l.bodies,
        like_block_nesting arrays p.types l.bodies,
        like_block_needs alike arrays p.types word_sort (guarded p) false l.bodies,
      )

  like_body : (p q : Procedure) → LikeProcedure p q → LikeBlock (compiled_body ps arrays p) (compiled_body qs arrays q)
  unfolding compiled_body
  like_body p q l =
      let same : temporary_of qs arrays q ≡ temporary_of ps arrays p = λ i. λ sort. like_temporary p q l sort i in
      rw (same, sym l.types, sym l.parameters, sym l.modes, same_rc_block p.types arrays (guarded p) false l.bodies)
      (like_closed (defers arrays p) (return_variable p)
      (like_block_code alike arrays p.types (first_moved p) (return_variable p) (temporary_of ps arrays p) l.bodies
      (guarded p) p.parameters false (first_pair arrays p)))

  like_procedure_code : (p q : Procedure) → LikeProcedure p q → LikeProcedure (compiled_procedure ps arrays p) (compiled_procedure qs arrays q)
  unfolding compiled_procedure
  like_procedure_code p q l =
      record {
        modes = refl;
        parameters = rw (l.parameters, l.modes);
        results = l.results;
        types = like_types p q l;
        bodies = like_body p q l;
      }

  like_procedures_code : {rs ss : List Procedure} → LikeProcedures rs ss → LikeProcedures (compiled_procedures ps arrays rs) (compiled_procedures qs arrays ss)
  unfolding compiled_procedures map
  like_procedures_code like_empty = like_empty
  like_procedures_code (like_next {p} {q} l ls) = like_next (like_procedure_code p q l) (like_procedures_code ls)

like_fit_locals : {ps qs : List Procedure} → LikeProcedures ps qs → fit_locals qs ≡ fit_locals ps
unfolding fit_locals
like_fit_locals like_empty = refl
like_fit_locals (like_next l ls) = rw (sym l.types, sym l.parameters, like_fit_locals ls)

module _ {i j : Image} (l : LikeImage i j) where
  pub like_compiled : LikeImage (compiled_image i) (compiled_image j)
  unfolding compiled_image
  like_compiled =
      record {
        forms = refl;
        arrays = l.arrays;
        procedures = rw (sym l.arrays) (like_procedures_code l.procedures i.arrays l.procedures);
      }

  pub like_compiled_words : image_words (compiled_image i) ≡ image_words (compiled_image j)
  like_compiled_words = like_image_words (compiled_image i) (compiled_image j) like_compiled

  pub like_compiled_fits : fits (compiled_image i) ≡ fits (compiled_image j)
  like_compiled_fits = rw (like_compiled_words, like_fit_locals like_compiled.procedures)
