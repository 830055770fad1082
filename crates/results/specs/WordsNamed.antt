-- Trees in which N holds of every word that names an array or a binary operator: of the word's place, and of what the tree has there. In a tree that
-- was read it is what the word names, and in one without a fault an array is one of the image's. Assumes nothing.
use Rattle.std.specs.Prelude.{◌≡◌, Bool, set}
use Rattle.std.proofs.Math.Path.{refl}
use Rattle.std.proofs.Math.Bool.{true, false}
use mathlib.Core.List.{List, [], ◌∷◌, flat_map}
use Prim.Native.Nat.{ℕ, zero, suc, ◌+◌, ◌<◌}
use borrow.Author.Tests.{leb-true, leb-false}
use Rattle.std.proofs.Math.Dec.{leb}
use Rattle.std.proofs.Math.ListN.{length, get_or, get_or-eq_default}
use Rattle.definitions.specs.Image.{kind_of, payload_of, block_word, statement_word, expression_word, raw_word}
use Rattle.definitions.specs.Image.{called_of, largest_level, Expression, constant, boolean, variable, cell, unary, binary}
use Rattle.definitions.specs.Image.{select, Statement, assign, store, conditional, loop, return, call, Block, done}
use Rattle.definitions.specs.Image.{sequence, Procedure, Image, procedure_at, no_procedure}
use Rattle.definitions.specs.Reading.{got, refused, Reader, expression_at, read_expression, read_arguments, statement_at}
use Rattle.definitions.specs.Reading.{read_statements, read_statement, read_block, read_image}
use Rattle.definitions.specs.Sorts.{sort_faults, argument_faults, statement_sort_faults, block_sort_faults, procedure_sort_faults}
use Rattle.definitions.specs.Sorts.{procedures_sort_faults, image_sort_faults, inside}
use Rattle.laws.specs.Tests.{kept, nil_left, empties}
use Rattle.laws.specs.WordTests.{kinds, ops, statement_kind}
use Rattle.statements.specs.Statements.{NamesArray, in_expression, in_store}
use Rattle.laws.specs.Reads.{Reads, reads, refuses, read_as, too_deep, reads_then, reads_word}
use Rattle.laws.specs.ReadImages.{open_image, arities, arities_known}

-- what a word names: an array, or the operator of a binary expression
pub data WordName : Type 0 where
  named_array : ℕ → WordName
  named_operator : ℕ → WordName

module _ (N : ℕ → WordName → Type 0) where
  unfoldable pub ExpressionNames : Expression → Type 0
  ExpressionNames (constant p v) = Unit {0}
  ExpressionNames (boolean p v) = Unit {0}
  ExpressionNames (variable p x) = Unit {0}
  ExpressionNames (cell p a i) = N p (named_array a) × ExpressionNames i
  ExpressionNames (unary p o e) = ExpressionNames e
  ExpressionNames (binary p o e f) = N p (named_operator o) × ExpressionNames e × ExpressionNames f
  ExpressionNames (select p c e f) = ExpressionNames c × ExpressionNames e × ExpressionNames f

  unfoldable pub ExpressionsNames : List Expression → Type 0
  ExpressionsNames [] = Unit {0}
  ExpressionsNames (e ∷ es) = ExpressionNames e × ExpressionsNames es

  -- a statement at its place
  unfoldable mutual
    pub StatementNames : ℕ → Statement → Type 0
    StatementNames p (assign x e) = ExpressionNames e
    StatementNames p (store a i e) = N p (named_array a) × ExpressionNames i × ExpressionNames e
    StatementNames p (conditional c a b) = ExpressionNames c × BlockNames a × BlockNames b
    StatementNames p (loop x f t b) = ExpressionNames f × ExpressionNames t × BlockNames b
    StatementNames p (return e) = ExpressionNames e
    StatementNames p (call f x es) = ExpressionsNames es

    pub BlockNames : Block → Type 0
    BlockNames done = Unit {0}
    BlockNames (sequence p s b) = StatementNames p s × BlockNames b

  abbrev pub ProceduresNames : List Procedure → Type 0
  ProceduresNames ps = (f : ℕ) → BlockNames (procedure_at ps f).body

-- ---- where N says nothing of what is named

abbrev pub AnyName : ℕ → WordName → Type 0
AnyName p x = Unit {0}

any_name : (e : Expression) → ExpressionNames AnyName e
unfolding ExpressionNames
any_name (constant p v) = tt
any_name (boolean p v) = tt
any_name (variable p x) = tt
any_name (cell p a i) = (tt, any_name i)
any_name (unary p o e) = any_name e
any_name (binary p o e f) = (tt, any_name e, any_name f)
any_name (select p c e f) = (any_name c, any_name e, any_name f)

any_names : (es : List Expression) → ExpressionsNames AnyName es
unfolding ExpressionsNames
any_names [] = tt
any_names (e ∷ es) = (any_name e, any_names es)

mutual
  unfolding StatementNames BlockNames

  statement_any : (p : ℕ) (s : Statement) → StatementNames AnyName p s
  statement_any p (assign x e) = any_name e
  statement_any p (store a i e) = (tt, any_name i, any_name e)
  statement_any p (conditional c a b) = (any_name c, block_any a, block_any b)
  statement_any p (loop x f t b) = (any_name f, any_name t, block_any b)
  statement_any p (return e) = any_name e
  statement_any p (call f x es) = any_names es

  block_any : (b : Block) → BlockNames AnyName b
  block_any done = tt
  block_any (sequence p s b) = (statement_any p s, block_any b)

pub procedures_any : (ps : List Procedure) → ProceduresNames AnyName ps
procedures_any ps f = block_any (procedure_at ps f).body

-- ---- a tree without a fault: each array is one of the image's

module _ (N : ℕ → WordName → Type 0) (arrays : ℕ) where
  -- as before, and there is such an array
  abbrev pub WithArray : ℕ → WordName → Type 0
  WithArray p (named_array a) = N p (named_array a) × (a < arrays)
  WithArray p (named_operator o) = N p (named_operator o)

  module _ (types : List ℕ) where
    among_expression : (marks : List ℕ) (e : Expression) → sort_faults types arrays marks e ≡ [] → ExpressionNames N e → ExpressionNames WithArray e
    unfolding sort_faults ExpressionNames
    among_expression marks (constant p v) h n = tt
    among_expression marks (boolean p v) h n = tt
    among_expression marks (variable p x) h n = tt
    among_expression marks (cell p a i) h n =
        ((n.0, leb-false arrays a (kept (leb arrays a) 6 p (search empties))), among_expression marks i (search empties) n.1)
    among_expression marks (unary p o e) h n = among_expression marks e (search empties) n
    among_expression marks (binary p o e f) h n =
        (n.0, among_expression marks e (search empties) n.1, among_expression marks f (search empties) n.2)
    among_expression marks (select p c e f) h n = (
      among_expression marks c (search empties) n.0,
      among_expression marks e (search empties) n.1,
      among_expression marks f (search empties) n.2,
    )

    among_arguments : (marks callee : List ℕ) (k : ℕ) (es : List Expression) → argument_faults types arrays marks callee k es ≡ []
        → ExpressionsNames N es → ExpressionsNames WithArray es
    unfolding argument_faults ExpressionsNames
    among_arguments marks callee k [] h n = tt
    among_arguments marks callee k (e ∷ es) h n =
        (among_expression marks e (search empties) n.0, among_arguments marks callee (k + 1) es (search empties) n.1)

    module _ (ps : List Procedure) (parameters result : ℕ) where
      mutual
        unfolding statement_sort_faults block_sort_faults StatementNames BlockNames

        among_statement : (marks : List ℕ) (p : ℕ) (s : Statement) → statement_sort_faults ps parameters types result arrays marks p s ≡ []
            → StatementNames N p s → StatementNames WithArray p s
        among_statement marks p (assign x e) h n = among_expression marks e (search empties) n
        among_statement marks p (store a i e) h n = (
          (n.0, leb-false arrays a (kept (leb arrays a) 6 p (search empties))),
          among_expression marks i (search empties) n.1,
          among_expression marks e (search empties) n.2,
        )
        among_statement marks p (conditional c a b) h n =
            (among_expression marks c (search empties) n.0, among_block marks a (search empties) n.1, among_block marks b (search empties) n.2)
        among_statement marks p (loop x f t b) h n = (
          among_expression marks f (search empties) n.0,
          among_expression marks t (search empties) n.1,
          among_block (set marks x inside) b (search empties) n.2,
        )
        among_statement marks p (return e) h n = among_expression marks e (search empties) n
        among_statement marks p (call f x es) h n = among_arguments marks (procedure_at ps f).types 0 es (search empties) n

        among_block : (marks : List ℕ) (b : Block) → block_sort_faults ps parameters types result arrays marks b ≡ [] → BlockNames N b → BlockNames WithArray b
        among_block marks done h n = tt
        among_block marks (sequence p s b) h n = (among_statement marks p s (search empties) n.0, among_block marks b (search empties) n.1)

  among_procedures : (ps qs : List Procedure) → procedures_sort_faults ps arrays qs ≡ [] → ProceduresNames N qs → ProceduresNames WithArray qs
  unfolding procedures_sort_faults procedure_sort_faults flat_map BlockNames
  among_procedures ps [] h n f = tt
  among_procedures ps (q ∷ qs) h n zero =
      among_block q.types ps q.parameters q.result _ q.body (nil_left _ _ h) (n zero)
  among_procedures ps (q ∷ qs) h n (suc f) = among_procedures ps qs (search empties) (λ g. n (suc g)) f

-- ---- a tree that was read: each array and operator is the one that its word names

module _ (image : List ℕ) where
  abbrev pub Names : ℕ → WordName → Type 0
  Names p (named_array a) = NamesArray (get_or image p 0) a
  Names p (named_operator o) = (kind_of (get_or image p 0) ≡ 13) × (payload_of (get_or image p 0) ≡ o)

  expression_names : (l at : ℕ) → Reads (length image) (λ e n. ExpressionNames Names e) (read_expression l image at)
  unfolding read_expression ExpressionNames
  expression_names zero at = reads_word image at expression_word (λ w. refused 5 at) (λ h g. refuses (too_deep h))
  expression_names (suc l) at =
      reads_word image at expression_word (λ w. expression_at (λ a. read_expression l image a) image at w)
      (λ h g. let w = get_or image at 0 in
      kinds w g
      (λ k. rw k (reads tt))
      (λ k. rw k (reads_word image (at + 1) raw_word (λ v. got (constant at v) (at + 1 + 1)) (λ i q. reads tt)))
      (λ k. rw k (reads tt))
      (λ k. rw k (reads tt))
      (λ k. rw k (reads_then (expression_names l (at + 1)) (λ i n x. reads (in_expression k, x))))
      (λ k. rw k (reads_then (expression_names l (at + 1)) (λ e n x. reads x)))
      (λ k. rw k (reads_then (expression_names l (at + 1)) (λ e n x. reads_then (expression_names l n) (λ f m y. reads ((k, refl), x, y)))))
      (λ k. rw k (reads_then (expression_names l (at + 1)) (λ c n x. reads_then (expression_names l n)
      (λ e m y. reads_then (expression_names l m) (λ f o z. reads (x, y, z)))))))

  argument_names : (l n at : ℕ) → Reads (length image) (λ es m. ExpressionsNames Names es) (read_arguments n (λ a. read_expression l image a) at)
  unfolding read_arguments ExpressionsNames
  argument_names l zero at = reads tt
  argument_names l (suc n) at = reads_then (expression_names l at) (λ e m x. reads_then (argument_names l n m) (λ es o y. reads (x, y)))

  module _ (params : List ℕ) (me : ℕ) where
    op_names : (l at : ℕ) (block : Reader Block) → ((a : ℕ) → Reads (length image) (λ b n. BlockNames Names b) (block a))
        → statement_word me (get_or image at 0) ≡ true
        → Reads (length image) (λ s n. StatementNames Names at s) (statement_at (λ a. read_expression l image a) block params at (get_or image at 0))
    unfolding StatementNames
    op_names l at block b g =
        let w = get_or image at 0 in
        let k = statement_kind me w g in
        ops me w g
        (λ o. rw o (reads_then (expression_names l (at + 1)) (λ e n x. reads x)))
        (λ o. rw o (reads_then (expression_names l (at + 1)) (λ i n x. reads_then (expression_names l n) (λ e m y. reads (in_store k o, x, y)))))
        (λ o. rw o (reads_then (expression_names l (at + 1)) (λ c n x. reads_then (b n) (λ a m y. reads_then (b m) (λ d i z. reads (x, y, z))))))
        (λ o. rw o (reads_then (expression_names l (at + 1)) (λ f n x. reads_then (expression_names l n)
        (λ t m y. reads_then (b m) (λ d i z. reads (x, y, z))))))
        (λ o. rw o (reads_then (expression_names l (at + 1)) (λ e n x. reads x)))
        (λ o. rw o (reads_then (argument_names l (get_or params (called_of w) 0) (at + 1)) (λ es n x. reads x)))

    statements_names : (n : ℕ) (statement : Reader Statement) → ((a : ℕ) → Reads (length image) (λ s m. StatementNames Names a s) (statement a)) → (at : ℕ)
        → Reads (length image) (λ b m. BlockNames Names b) (read_statements n statement at)
    unfolding read_statements BlockNames
    statements_names zero statement r at = reads tt
    statements_names (suc n) statement r at = reads_then (r at) (λ s m x. reads_then (statements_names n statement r m) (λ b o y. reads (x, y)))

    mutual
      unfolding read_statement read_block

      statement_names : (l at : ℕ) → Reads (length image) (λ s n. StatementNames Names at s) (read_statement l params me image at)
      statement_names zero at = reads_word image at (λ w. statement_word me w) (λ w. refused 5 at) (λ h g. refuses (too_deep h))
      statement_names (suc l) at =
          reads_word image at (λ w. statement_word me w)
          (λ w. statement_at (λ a. read_expression l image a) (λ a. read_block l params me image a) params at w)
          (λ h g. op_names l at (λ a. read_block l params me image a) (λ a. block_names l a) g)

      block_names : (l at : ℕ) → Reads (length image) (λ b n. BlockNames Names b) (read_block l params me image at)
      block_names zero at = reads_word image at block_word (λ w. refused 5 at) (λ h g. refuses (too_deep h))
      block_names (suc l) at =
          reads_word image at block_word (λ w. read_statements (payload_of w) (λ a. read_statement l params me image a) (at + 1))
          (λ h g. statements_names (payload_of (get_or image at 0)) (λ a. read_statement l params me image a) (λ a. statement_names l a) (at + 1))

module _ (whole : Bool) (words : List ℕ) (tree : Image) (n : ℕ) (e : read_image whole words ≡ got tree n) where
  -- each array and operator that an image's tree names is the one that its word names
  pub procedures_names : ProceduresNames (Names words) tree.procedures
  unfolding BlockNames
  procedures_names f = go (leb (length tree.procedures) f) refl
    where
      go : (b : Bool) → leb (length tree.procedures) f ≡ b → BlockNames (Names words) (procedure_at tree.procedures f).body
      go true h = rw (get_or-eq_default tree.procedures no_procedure (leb-true _ _ h)) tt
      go false h =
          let (m, p) = (open_image whole words tree n e).each (arities tree.procedures) (arities_known tree.procedures) f (leb-false _ _ h) in
          let q = procedure_at tree.procedures f in
          read_as (rw p.body at (block_names words (arities tree.procedures) f (largest_level tree.form) (q.place + 1 + 1 + length q.types)))

  -- and in an accepted image each array is one of the image's
  pub procedures_arrays : image_sort_faults tree ≡ [] → ProceduresNames (WithArray (Names words) (length tree.arrays)) tree.procedures
  unfolding image_sort_faults
  procedures_arrays h = among_procedures (Names words) (length tree.arrays) tree.procedures tree.procedures h procedures_names
