-- Document 02, wish 8: an image compiled by the former numbering and by today's. A body has as many words, whatever the numbers of its variables are,
-- and a procedure has no more locals. So what the former compiler wrote has room today. Assumes nothing.
use Prim.Native.Nat.{ℕ, suc, ◌+◌, ◌*◌, ◌≤◌, ◌<◌}
use Rattle.std.specs.Prelude.{Bool, ◌&&◌, ◌||◌, ◌⊎◌, ◌≡◌, leb, eqb, length}
use Rattle.std.proofs.Math.Bool.{true, false}
use mathlib.Core.List.{List, [], ◌∷◌, ◌++◌, map, flat_map}
use Rattle.std.proofs.Common.{inl, inr, sym, ◌∙◌, eqb-true, leb-true, leb-false, le-leb}
use Rattle.std.proofs.Math.Path.{refl, ap}
use native.Mathlib.Omega.{arith}
use Rattle.std.proofs.lemmas.Bool.{lt-leb}
use Rattle.std.proofs.Math.ListN.{length-append}
use Rattle.definitions.specs.Choice.{pick}
use Rattle.definitions.specs.declared.Compiled.{Compiled}
use Rattle.definitions.specs.declared.Compiled.TheVariants.{Written, Refused}
use Rattle.definitions.specs.Operators.{word_sort, boolean_sort}
use Rattle.definitions.specs.Image.{Expression, boolean, variable, cell, unary, select, Statement, assign, store, conditional, loop, return, call, Block, done, sequence}
use Rattle.definitions.specs.Image.{Procedure, Image, guarded, procedure_at, type_sort}
use Rattle.definitions.specs.Labels.{secret_in, rc_after, rc_after_block}
use Rattle.definitions.specs.Encoding.{expression_words, argument_words, statement_words, statements_words, block_words, procedure_words}
use Rattle.definitions.specs.Encoding.{procedures_words, image_words}
use Rattle.definitions.specs.Compiling.{renamed, moved, moved_all, act, masked, under, one, followed_by, statement_nesting, block_nesting}
use Rattle.definitions.specs.Compiling.{statement_needs, block_needs, ArmCode, compiled_if, compiled_return, compiled_call}
use Rattle.definitions.specs.Compiling.{compiled_statement, compiled_block, defers, return_variable, first_moved, closed, temporary_of}
use Rattle.definitions.specs.Compiling.{compiled_types, compiled_body, compiled_procedure, compiled_procedures, compiled_image, fit_locals, fits, written}
use Rattle.statements.specs.Statements.{Iff}
use Rattle.statements.specs.FormerNumbering.{former_call_temporary, former_if_temporaries, former_temporaries, former_block_temporaries}
use Rattle.statements.specs.FormerNumbering.{former_if, former_statement, former_block, former_types, former_body, former_procedure}
use Rattle.statements.specs.FormerNumbering.{former_image}
use Rattle.laws.specs.Following.{followed_words}
use Rattle.laws.specs.Fitting.{words_fit}
use Rattle.laws.specs.CompiledLocals.{temporary_count, variables_count, types_count}

-- ---- Bodies: as many words

-- the number of words of an expression and of a block
abbrev wide : Expression → ℕ
wide e = length (expression_words e)

abbrev size : Block → ℕ
size b = length (statements_words b)

followed_size : (a b : Block) → size (followed_by a b) ≡ size a + size b
followed_size a b = ap length (followed_words a b) ∙ length-append (statements_words a) (statements_words b)

sequence_size : (s s' : Statement) (b b' : Block) → length (statement_words s) ≡ length (statement_words s') → size b ≡ size b'
    → size (sequence 0 s b) ≡ size (sequence 0 s' b')
unfolding statement_words
sequence_size s s' b b' h k =
    let p = length-append (statement_words s) (statements_words b) in
    let q = length-append (statement_words s') (statements_words b') in
    omega arith

assign_size : (x x' : ℕ) (e e' : Expression) → wide e ≡ wide e' → length (statement_words (assign x e)) ≡ length (statement_words (assign x' e'))
unfolding statement_words
assign_size x x' e e' h = ap suc h

variable_size : (x x' : ℕ) → wide (variable 0 x) ≡ wide (variable 0 x')
unfolding expression_words
variable_size x x' = refl

-- the act has as many words whatever the arm's variable is
act_size : (pc : Bool) (arm arm' : ℕ) (rc : Bool) (live : ℕ) → wide (act pc arm rc live) ≡ wide (act pc arm' rc live)
unfolding act expression_words
act_size true arm arm' true live = refl
act_size true arm arm' false live = refl
act_size false arm arm' rc live = refl

-- and so have the parts that are made with it
module _ (a a' : Expression) (same : wide a ≡ wide a') where
  select_size : (v v' old : Expression) → wide v ≡ wide v' → wide (select 0 a v old) ≡ wide (select 0 a' v' old)
  unfolding expression_words
  select_size v v' old alike =
      let p = length-append (expression_words a) (expression_words v ++ expression_words old) in
      let q = length-append (expression_words a') (expression_words v' ++ expression_words old) in
      let r = length-append (expression_words v) (expression_words old) in
      let s = length-append (expression_words v') (expression_words old) in
      omega arith

  masked_size : (b : Bool) (v old : Expression) → wide (masked b a v old) ≡ wide (masked b a' v old)
  unfolding masked
  masked_size true v old = select_size v v old refl
  masked_size false v old = refl

  under_size : (b : Bool) (v v' : Expression) → wide v ≡ wide v' → wide (under b a v) ≡ wide (under b a' v')
  unfolding under expression_words
  under_size true v v' alike =
      let p = length-append (expression_words a) (expression_words v) in
      let q = length-append (expression_words a') (expression_words v') in
      omega arith
  under_size false v v' alike = alike

  store_size : (b : Bool) (x : ℕ) (i v old : Expression) → size (one (store x i (masked b a v old))) ≡ size (one (store x i (masked b a' v old)))
  unfolding statement_words
  store_size b x i v old =
      let p = length-append (expression_words i) (expression_words (masked b a v old)) in
      let q = length-append (expression_words i) (expression_words (masked b a' v old)) in
      let r = masked_size b v old in
      sequence_size (store x i (masked b a v old)) (store x i (masked b a' v old)) done done (omega arith) refl

  return_size : (b : Bool) (rv : ℕ) (v : Expression) → size (compiled_return b a rv v) ≡ size (compiled_return b a' rv v)
  unfolding compiled_return
  return_size true rv v =
      sequence_size _ _ _ _ (assign_size rv rv _ _ (select_size v v (variable 0 rv) refl))
      (sequence_size _ _ done done (assign_size (rv + 1) (rv + 1) _ _ (select_size (boolean 0 0) (boolean 0 0) (variable 0 (rv + 1)) refl)) refl)
  return_size false rv v = refl

  arguments_size : (es : List Expression) → length (argument_words (es ++ (a ∷ []))) ≡ length (argument_words (es ++ (a' ∷ [])))
  unfolding argument_words flat_map
  arguments_size [] = let p = length-append (expression_words a) [] in let q = length-append (expression_words a') [] in omega arith
  arguments_size (e ∷ es) =
      let p = length-append (expression_words e) (argument_words (es ++ (a ∷ []))) in
      let q = length-append (expression_words e) (argument_words (es ++ (a' ∷ []))) in
      let r = arguments_size es in
      omega arith

  guarded_size : (f k k' : ℕ) (es : List Expression)
      → length (statement_words (call f k (es ++ (a ∷ [])))) ≡ length (statement_words (call f k' (es ++ (a' ∷ []))))
  unfolding statement_words
  guarded_size f k k' es = ap suc (arguments_size es)

  call_size : (b g : Bool) (k k' f x : ℕ) (es : List Expression) → size (compiled_call b g a k f x es) ≡ size (compiled_call b g a' k' f x es)
  unfolding compiled_call
  call_size true g k k' f x es =
      sequence_size _ _ _ _ (guarded_size f k k' es)
      (sequence_size _ _ done done (assign_size x x _ _ (select_size (variable 0 k) (variable 0 k') (variable 0 x) (variable_size k k'))) refl)
  call_size false g k k' f x es = refl

conditional_size : (c : Expression) (a b a' b' : Block) → size a ≡ size a' → size b ≡ size b'
    → size (one (conditional c a b)) ≡ size (one (conditional c a' b'))
unfolding statement_words block_words
conditional_size c a b a' b' h k =
    let p = length-append (expression_words c) (block_words a ++ block_words b) in
    let q = length-append (expression_words c) (block_words a' ++ block_words b') in
    let r = length-append (statements_words a) (block_words b) in
    let s = length-append (statements_words a') (block_words b') in
    sequence_size (conditional c a b) (conditional c a' b') done done (omega arith) refl

loop_size : (x : ℕ) (f t : Expression) (b b' : Block) → size b ≡ size b' → size (one (loop x f t b)) ≡ size (one (loop x f t b'))
unfolding statement_words block_words
loop_size x f t b b' h =
    let p = length-append (expression_words f) (expression_words t ++ block_words b) in
    let q = length-append (expression_words f) (expression_words t ++ block_words b') in
    let r = length-append (expression_words t) (block_words b) in
    let s = length-append (expression_words t) (block_words b') in
    sequence_size (loop x f t b) (loop x f t b') done done (omega arith) refl

-- an if, of whose arms the words are as many
if_size : (s pc : Bool) (arm arm' : ℕ) (rc : Bool) (live k k' : ℕ) (c : Expression) (n : ℕ) (x y x' y' : ArmCode)
    → ((q : Bool) (v w v' w' : ℕ) → size (x q v w) ≡ size (x' q v' w')) → ((q : Bool) (v w v' w' : ℕ) → size (y q v w) ≡ size (y' q v' w'))
    → size (compiled_if s pc arm rc live k c x y) ≡ size (former_if s pc arm' rc live k' c n x' y')
unfolding compiled_if former_if
if_size true pc arm arm' rc live k k' c n x y x' y' f g =
    let a = act_size pc arm arm' rc live in
    let p = followed_size (x true k (k + 2)) (y true (k + 1) (k + 2)) in
    let q = followed_size (x' true k' (k' + 2)) (y' true (k' + 1) (k' + 2 + n)) in
    let t = f true k (k + 2) k' (k' + 2) in
    let e = g true (k + 1) (k + 2) (k' + 1) (k' + 2 + n) in
    sequence_size _ _ _ _ (assign_size k k' _ _ (under_size (act pc arm rc live) (act pc arm' rc live) a (pc || rc) c c refl))
    (sequence_size _ _ _ _ (assign_size (k + 1) (k' + 1) _ _
    (under_size (act pc arm rc live) (act pc arm' rc live) a (pc || rc) (unary 0 0 (variable 0 k)) (unary 0 0 (variable 0 k')) (negation k k')))
    (omega arith))
  where
    negation : (k k' : ℕ) → wide (unary 0 0 (variable 0 k)) ≡ wide (unary 0 0 (variable 0 k'))
    negation k k' = unfold expression_words in refl
if_size false pc arm arm' rc live k k' c n x y x' y' f g =
    conditional_size c (x pc arm k) (y pc arm k) (x' pc arm' k') (y' pc arm' (k' + n)) (f pc arm k arm' k') (g pc arm k arm' (k' + n))

module _ (ps : List Procedure) (arrays types : List ℕ) (first rv : ℕ) (temporary : ℕ → ℕ) where
  mutual
    unfolding compiled_statement former_statement

    statement_size : (s : Statement) (pc : Bool) (arm arm' : ℕ) (rc : Bool) (k k' : ℕ)
        → size (compiled_statement ps arrays types first rv temporary s pc arm rc k) ≡ size (former_statement ps arrays types first rv s pc arm' rc k')
    statement_size (assign x e) pc arm arm' rc k k' =
        sequence_size _ _ done done (assign_size (renamed first x) (renamed first x) _ _
        (masked_size (act pc arm rc (rv + 1)) (act pc arm' rc (rv + 1)) (act_size pc arm arm' rc (rv + 1)) (pc || rc) (moved first e) (variable 0 (renamed first x)))) refl
    statement_size (store a i e) pc arm arm' rc k k' =
        store_size (act pc arm rc (rv + 1)) (act pc arm' rc (rv + 1)) (act_size pc arm arm' rc (rv + 1)) (pc || rc) a (moved first i) (moved first e) (cell 0 a (moved first i))
    statement_size (conditional c a b) pc arm arm' rc k k' =
        if_size (secret_in types arrays c) pc arm arm' rc (rv + 1) k k' (moved first c) _ _ _ _ _
        (λ q v w v' w'. block_size a q v v' rc w w') (λ q v w v' w'. block_size b q v v' rc w w')
    statement_size (loop x f t b) pc arm arm' rc k k' =
        loop_size (renamed first x) (moved first f) (moved first t) _ _ (block_size b pc arm arm' (rc_after_block types arrays pc rc b) k k')
    statement_size (return e) pc arm arm' rc k k' =
        return_size (act pc arm rc (rv + 1)) (act pc arm' rc (rv + 1)) (act_size pc arm arm' rc (rv + 1)) (pc || rc) rv (moved first e)
    statement_size (call f x es) pc arm arm' rc k k' =
        call_size (act pc arm rc (rv + 1)) (act pc arm' rc (rv + 1)) (act_size pc arm arm' rc (rv + 1)) (pc || rc) (guarded (procedure_at ps f)) _ k' f (renamed first x)
        (moved_all first es)

    block_size : (b : Block) (pc : Bool) (arm arm' : ℕ) (rc : Bool) (k k' : ℕ)
        → size (compiled_block ps arrays types first rv temporary b pc arm rc k) ≡ size (former_block ps arrays types first rv b pc arm' rc k')
    block_size done pc arm arm' rc k k' = refl
    block_size (sequence p s b) pc arm arm' rc k k' =
        let n = k' + length (former_temporaries ps arrays types pc rc s) in
        let x = followed_size (compiled_statement ps arrays types first rv temporary s pc arm rc k)
        (compiled_block ps arrays types first rv temporary b pc arm (rc_after types arrays pc rc s) k) in
        let y = followed_size (former_statement ps arrays types first rv s pc arm' rc k')
        (former_block ps arrays types first rv b pc arm' (rc_after types arrays pc rc s) n) in
        let h = statement_size s pc arm arm' rc k k' in
        let i = block_size b pc arm arm' (rc_after types arrays pc rc s) k n in
        omega arith

closed_size : (d : Bool) (rv : ℕ) (b b' : Block) → size b ≡ size b' → size (closed d rv b) ≡ size (closed d rv b')
unfolding closed
closed_size true rv b b' h =
    let x = followed_size b (one (return (variable 0 rv))) in
    let y = followed_size b' (one (return (variable 0 rv))) in
    sequence_size _ _ _ _ refl (omega arith)
closed_size false rv b b' h = h

-- ---- Locals: no more of them

either_counts : (a b : Bool) → pick {A = ℕ} (a || b) 1 0 ≤ pick a 1 0 + pick b 1 0
either_counts true b = omega arith
either_counts false b = omega arith

-- what a statement and a block need is no more than what they took
module _ (ps : List Procedure) (arrays types : List ℕ) where
  abbrev needs_of : Bool → Bool → Statement → ℕ
  needs_of pc rc s = temporary_count (statement_needs ps arrays types word_sort pc rc s) (statement_needs ps arrays types boolean_sort pc rc s)

  abbrev block_needs_of : Bool → Bool → Block → ℕ
  block_needs_of pc rc b = temporary_count (block_needs ps arrays types word_sort pc rc b) (block_needs ps arrays types boolean_sort pc rc b)

  call_needs : (context : Bool) (f : ℕ)
      → temporary_count (context && eqb (type_sort (procedure_at ps f).result) word_sort) (context && eqb (type_sort (procedure_at ps f).result) boolean_sort)
      ≤ length (former_call_temporary context ps f)
  call_needs true f = go (eqb (type_sort (procedure_at ps f).result) word_sort) (eqb (type_sort (procedure_at ps f).result) boolean_sort) refl refl
    where
      go : (a b : Bool) → eqb (type_sort (procedure_at ps f).result) word_sort ≡ a → eqb (type_sort (procedure_at ps f).result) boolean_sort ≡ b
          → pick {A = ℕ} a 1 0 + pick {A = ℕ} b 1 0 ≤ 1
      go true true p q =
          let x : type_sort (procedure_at ps f).result ≡ 0 = eqb-true _ _ p in
          let y : type_sort (procedure_at ps f).result ≡ 1 = eqb-true _ _ q in
          absurd (omega arith)
      go true false p q = omega arith
      go false true p q = omega arith
      go false false p q = omega arith
  call_needs false f = omega arith

  mutual
    unfolding statement_nesting statement_needs former_temporaries

    statement_needs_lem : (s : Statement) (pc rc : Bool) → 2 * statement_nesting arrays types s + needs_of pc rc s ≤ length (former_temporaries ps arrays types pc rc s)
    statement_needs_lem (assign x e) pc rc = omega arith
    statement_needs_lem (store a i e) pc rc = omega arith
    statement_needs_lem (conditional c a b) pc rc =
        let p = pc || secret_in types arrays c in
        let x = block_needs_lem a p rc in
        let y = block_needs_lem b p rc in
        let m = length-append (former_if_temporaries (secret_in types arrays c)) (former_block_temporaries ps arrays types p rc a ++ former_block_temporaries ps arrays types p rc b) in
        let n = length-append (former_block_temporaries ps arrays types p rc a) (former_block_temporaries ps arrays types p rc b) in
        let w = either_counts (block_needs ps arrays types word_sort p rc a) (block_needs ps arrays types word_sort p rc b) in
        let o = either_counts (block_needs ps arrays types boolean_sort p rc a) (block_needs ps arrays types boolean_sort p rc b) in
        let t = pair (secret_in types arrays c) in
        omega arith
      where
        pair : (s : Bool) → 2 * pick {A = ℕ} s 1 0 ≡ length (former_if_temporaries s)
        pair true = refl
        pair false = refl
    statement_needs_lem (loop x f t b) pc rc = block_needs_lem b pc (rc_after_block types arrays pc rc b)
    statement_needs_lem (return e) pc rc = omega arith
    statement_needs_lem (call f x es) pc rc = let n = call_needs (pc || rc) f in omega arith

    block_needs_lem : (b : Block) (pc rc : Bool) → 2 * block_nesting arrays types b + block_needs_of pc rc b ≤ length (former_block_temporaries ps arrays types pc rc b)
    block_needs_lem done pc rc = omega arith
    block_needs_lem (sequence p s b) pc rc =
        let q = rc_after types arrays pc rc s in
        let x = statement_needs_lem s pc rc in
        let y = block_needs_lem b pc q in
        let n = length-append (former_temporaries ps arrays types pc rc s) (former_block_temporaries ps arrays types pc q b) in
        let w = either_counts (statement_needs ps arrays types word_sort pc rc s) (block_needs ps arrays types word_sort pc q b) in
        let o = either_counts (statement_needs ps arrays types boolean_sort pc rc s) (block_needs ps arrays types boolean_sort pc q b) in
        omega arith

module _ (ps : List Procedure) (arrays : List ℕ) (p : Procedure) where
  fewer_types : length (compiled_types ps arrays p) ≤ length (former_types ps arrays p)
  unfolding former_types
  fewer_types =
      let m = types_count ps arrays p in
      let n = variables_count arrays p (former_block_temporaries ps arrays p.types (guarded p) false p.body) in
      let h = block_needs_lem ps arrays p.types p.body (guarded p) false in
      omega arith

  body_size : size (compiled_body ps arrays p) ≡ size (former_body ps arrays p)
  unfolding compiled_body former_body
  body_size = closed_size (defers arrays p) (return_variable p) _ _
      (block_size ps arrays p.types (first_moved p) (return_variable p) (temporary_of ps arrays p) p.body (guarded p) p.parameters p.parameters false _ _)

  procedure_size : length (procedure_words (compiled_procedure ps arrays p)) ≤ length (procedure_words (former_procedure ps arrays p))
  unfolding procedure_words block_words compiled_procedure former_procedure
  procedure_size =
      let m = length-append (compiled_types ps arrays p) (block_words (compiled_body ps arrays p)) in
      let n = length-append (former_types ps arrays p) (block_words (former_body ps arrays p)) in
      let h = fewer_types in
      let i = body_size in
      omega arith

-- ---- Images: no more words

procedures_size : (ps : List Procedure) (arrays : List ℕ) (some : List Procedure)
    → length (procedures_words (compiled_procedures ps arrays some)) ≤ length (procedures_words (map (λ p. former_procedure ps arrays p) some))
unfolding flat_map procedures_words compiled_procedures
procedures_size ps arrays [] = omega arith
procedures_size ps arrays (p ∷ some) =
    let m = length-append (procedure_words (compiled_procedure ps arrays p)) (procedures_words (compiled_procedures ps arrays some)) in
    let n = length-append (procedure_words (former_procedure ps arrays p)) (procedures_words (map (λ p. former_procedure ps arrays p) some)) in
    let h = procedure_size ps arrays p in
    let i = procedures_size ps arrays some in
    omega arith

no_more_words : (tree : Image) → length (image_words (compiled_image tree)) ≤ length (image_words (former_image tree))
unfolding image_words compiled_image former_image
no_more_words tree =
    let m = length-append tree.arrays (procedures_words (compiled_procedures tree.procedures tree.arrays tree.procedures)) in
    let n = length-append tree.arrays (procedures_words (map (λ p. former_procedure tree.procedures tree.arrays p) tree.procedures)) in
    let h = procedures_size tree.procedures tree.arrays tree.procedures in
    omega arith

-- ---- What was written has room, and what is refused was

module _ (tree : Image) (fit : fit_locals (compiled_image tree).procedures ≡ true) (out : List ℕ) where
  abbrev formerly : ℕ
  formerly = length (image_words (former_image tree))

  abbrev today : ℕ
  today = length (image_words (compiled_image tree))

  -- the answer by its tests, whether the words are within the limits and whether there is room for them
  abbrev answer : Bool → Bool → ℕ → Compiled
  answer true true n = Written n
  answer true false n = Refused 16 0
  answer false room n = Refused 15 0

  by_tests : (image : Image) (a b : Bool) → fits image ≡ a → leb (length (image_words image)) (length out) ≡ b
      → (written image out).0 ≡ answer a b (length (image_words image))
  unfolding written
  by_tests image true true p q = rw (p, q) refl
  by_tests image true false p q = rw (p, q) refl
  by_tests image false b p q = rw p refl

  fits_by_length : (a : Bool) → leb today 16384 ≡ a → fits (compiled_image tree) ≡ a
  fits_by_length a e = rw (fit, e) refl

  pub still_written : (n : ℕ) → (written (former_image tree) out).0 ≡ Written n → (m : ℕ) × ((written (compiled_image tree) out).0 ≡ Written m) × (m ≤ n)
  still_written n = go (fits (former_image tree)) (leb formerly (length out)) refl refl
    where
      go : (a b : Bool) → fits (former_image tree) ≡ a → leb formerly (length out) ≡ b → (written (former_image tree) out).0 ≡ Written n
          → (m : ℕ) × ((written (compiled_image tree) out).0 ≡ Written m) × (m ≤ n)
      go true true p q e =
          let w : formerly ≤ 16384 = words_fit (former_image tree) p in
          let r : formerly ≤ length out = leb-true formerly (length out) q in
          let h : today ≤ formerly = no_more_words tree in
          let y : Written n ≡ Written formerly = sym e ∙ by_tests (former_image tree) true true p q in
          let z : n ≡ formerly = cc in (
            today,
            by_tests (compiled_image tree) true true (fits_by_length true (le-leb today 16384 (omega arith))) (le-leb today (length out) (omega arith)),
            omega arith,
          )
      go true false p q e =
          let y : Written n ≡ Refused 16 0 = sym e ∙ by_tests (former_image tree) true false p q in let z : ◌≡◌ {A = ℕ} 0 1 = cc in absurd (omega arith)
      go false b p q e =
          let y : Written n ≡ Refused 15 0 = sym e ∙ by_tests (former_image tree) false b p q in let z : ◌≡◌ {A = ℕ} 0 1 = cc in absurd (omega arith)

  -- what is refused was refused alike, or with 15
  abbrev pub Before : ℕ → ℕ → Type 0
  Before k p = ((written (former_image tree) out).0 ≡ Refused k p) ⊎ ((written (former_image tree) out).0 ≡ Refused 15 0)

  pub refused_before : (k p : ℕ) → (written (compiled_image tree) out).0 ≡ Refused k p → Before k p
  refused_before k p = go (leb today 16384) (leb today (length out)) refl refl
    where
      short : (a : Bool) → fits (former_image tree) ≡ a → length out < today → Before 16 0
      short true e l =
          let h : today ≤ formerly = no_more_words tree in inl (by_tests (former_image tree) true false e (lt-leb formerly (length out) (omega arith)))
      short false e l = inr (by_tests (former_image tree) false _ e refl)

      go : (a b : Bool) → leb today 16384 ≡ a → leb today (length out) ≡ b → (written (compiled_image tree) out).0 ≡ Refused k p → Before k p
      go true true i j e =
          let y : Refused k p ≡ Written today = sym e ∙ by_tests (compiled_image tree) true true (fits_by_length true i) j in
          let z : ◌≡◌ {A = ℕ} 0 1 = cc in absurd (omega arith)
      go true false i j e =
          let y : Refused 16 0 ≡ Refused k p = sym (by_tests (compiled_image tree) true false (fits_by_length true i) j) ∙ e in
          let m : 16 ≡ k = cc in
          let n : 0 ≡ p = cc in
          rw (sym m, sym n) (short (fits (former_image tree)) refl (leb-false today (length out) j))
      go false b i j e =
          let y : Refused 15 0 ≡ Refused k p = sym (by_tests (compiled_image tree) false b (fits_by_length false i) j) ∙ e in
          let h : today ≤ formerly = no_more_words tree in
          let l : 16384 < today = leb-false today 16384 i in
          let f : leb formerly 16384 ≡ false = lt-leb formerly 16384 (omega arith) in
          inr (by_tests (former_image tree) false _ (over (fit_locals (former_image tree).procedures) f) refl)
        where
          over : (a : Bool) → leb formerly 16384 ≡ false → (a && leb formerly 16384) ≡ false
          over true f = f
          over false f = refl

  -- "15 result over form 1's limits": where it has too many words
  pub fifteen_by_length : Iff ((written (compiled_image tree) out).0 ≡ Refused 15 0) (16384 < today)
  fifteen_by_length =
      (go (leb today 16384) (leb today (length out)) refl refl, λ l. by_tests (compiled_image tree) false _ (fits_by_length false (lt-leb today 16384 l)) refl)
    where
      go : (a b : Bool) → leb today 16384 ≡ a → leb today (length out) ≡ b → (written (compiled_image tree) out).0 ≡ Refused 15 0 → 16384 < today
      go true true i j e =
          let y : Refused 15 0 ≡ Written today = sym e ∙ by_tests (compiled_image tree) true true (fits_by_length true i) j in
          let z : ◌≡◌ {A = ℕ} 0 1 = cc in absurd (omega arith)
      go true false i j e =
          let y : Refused 15 0 ≡ Refused 16 0 = sym e ∙ by_tests (compiled_image tree) true false (fits_by_length true i) j in
          let z : ◌≡◌ {A = ℕ} 15 16 = cc in absurd (omega arith)
      go false b i j e = leb-false today 16384 i
