-- Document 01, "Image words" and "From the image or request": reading words into the tree, or the refusal 1 to 5 with
-- its place. "Reading stops at its first fault": a part is begun only where the one before it was read.
use Rattle.std.specs.Prelude.{ℕ, zero, suc, ◌+◌, ◌-◌, Bool, ◌&&◌, List, [], ◌∷◌, leb, eqb, length, get_or, set, replicate}
use Rattle.definitions.specs.Choice.{pick}
use Rattle.definitions.specs.Image.{form_of, arrays_of, procedures_of, header_word, largest_image, largest_level}
use Rattle.definitions.specs.Image.{array_length, array_word, mode_of, parameters_of, locals_of, procedure_word}
use Rattle.definitions.specs.Image.{type_word, block_word, op_of, target_of, called_of, result_of, statement_word}
use Rattle.definitions.specs.Image.{kind_of, payload_of, expression_word, raw_word, Expression, constant, boolean}
use Rattle.definitions.specs.Image.{variable, cell, unary, binary, select, Statement, assign, store, conditional}
use Rattle.definitions.specs.Image.{loop, return, call, Block, done, sequence, Procedure, Image}

-- What reading at a place gives: the part that was read with the place after it, or the refusal's number and place.
pub data Parse (A : Type 0) : Type 0 where
  got : A → ℕ → Parse A
  refused : ℕ → ℕ → Parse A

-- what reads a part at a place
abbrev pub Reader : Type 0 → Type 0
Reader A = ℕ → Parse A

-- the part after, begun where this one ends; a refusal is passed on
abbrev pub and_then : {A B : Type 0} → Parse A → (A → ℕ → Parse B) → Parse B
and_then (got a n) f = f a n
and_then (refused n p) f = refused n p

-- One word: "3 [length] ends early", "2 [word] wrong kind or payload", else what is made of the word.
abbrev pub on_word : {A : Type 0} → List ℕ → ℕ → (ℕ → Bool) → (ℕ → Parse A) → Parse A
on_word image at good f = pick (leb (length image) at) (refused 3 (length image))
    (pick (good (get_or image at 0)) (f (get_or image at 0)) (refused 2 at))

-- What stands after an expression's first word, a row for each kind from 7 on, given the payload
abbrev pub expression_rows : Reader Expression → List ℕ → ℕ → List (ℕ → Parse Expression)
expression_rows operand image at = (λ p. got (constant at p) (at + 1))
    ∷ (λ p. on_word image (at + 1) raw_word (λ v. got (constant at v) (at + 1 + 1))) ∷ (λ p. got (boolean at p) (at + 1))
    ∷ (λ p. got (variable at p) (at + 1)) ∷ (λ p. and_then (operand (at + 1)) (λ i n. got (cell at p i) n))
    ∷ (λ p. and_then (operand (at + 1)) (λ e n. got (unary at p e) n))
    ∷ (λ p. and_then (operand (at + 1)) (λ e n. and_then (operand n) (λ f m. got (binary at p e f) m)))
    ∷ (λ p. and_then (operand (at + 1))
    (λ c n. and_then (operand n) (λ e m. and_then (operand m) (λ f o. got (select at c e f) o)))) ∷ []

abbrev pub expression_at : Reader Expression → List ℕ → ℕ → ℕ → Parse Expression
expression_at operand image at w =
    get_or (expression_rows operand image at) (kind_of w - 7) (λ p. refused 2 at) (payload_of w)

-- "Expressions, operator first." The first argument is the number of levels left; where none is, "5 [word] too deep".
unfoldable pub read_expression : ℕ → List ℕ → ℕ → Parse Expression
read_expression zero image at = on_word image at expression_word (λ w. refused 5 at)
read_expression (suc l) image at =
    on_word image at expression_word (λ w. expression_at (λ a. read_expression l image a) image at w)

-- "one value per parameter": that many expressions
unfoldable pub read_arguments : ℕ → Reader Expression → ℕ → Parse (List Expression)
read_arguments zero operand at = got [] at
read_arguments (suc n) operand at =
    and_then (operand at) (λ e m. and_then (read_arguments n operand m) (λ es o. got (e ∷ es) o))

-- "5, block: a count, then that many statements."
unfoldable pub read_statements : ℕ → Reader Statement → ℕ → Parse Block
read_statements zero statement at = got done at
read_statements (suc n) statement at =
    and_then (statement at) (λ s m. and_then (read_statements n statement m) (λ b o. got (sequence at s b) o))

-- What stands after a statement's word, a row for each op, given q; `params`: the procedures' numbers of parameters.
abbrev pub statement_rows : Reader Expression → Reader Block → List ℕ → ℕ → ℕ → List (ℕ → Parse Statement)
statement_rows operand block params at w = (λ q. and_then (operand (at + 1)) (λ e n. got (assign q e) n))
    ∷ (λ q. and_then (operand (at + 1)) (λ i n. and_then (operand n) (λ e m. got (store q i e) m)))
    ∷ (λ q. and_then (operand (at + 1))
    (λ c n. and_then (block n) (λ a m. and_then (block m) (λ b o. got (conditional c a b) o))))
    ∷ (λ q. and_then (operand (at + 1))
    (λ f n. and_then (operand n) (λ t m. and_then (block m) (λ b o. got (loop q f t b) o))))
    ∷ (λ q. and_then (operand (at + 1)) (λ e n. got (return e) n))
    ∷ (λ q. and_then (read_arguments (get_or params (called_of w) 0) operand (at + 1))
    (λ es n. got (call (called_of w) (result_of w) es) n)) ∷ []

abbrev pub statement_at : Reader Expression → Reader Block → List ℕ → ℕ → ℕ → Parse Statement
statement_at operand block params at w =
    get_or (statement_rows operand block params at w) (op_of w) (λ q. refused 2 at) (target_of w)

-- "Level: the body is at 1; a statement, block or operand is one below the word it belongs to." The first argument is
-- the number of levels that are left, `me` the number of the procedure whose body this is.
unfoldable mutual
  pub read_statement : ℕ → List ℕ → ℕ → List ℕ → ℕ → Parse Statement
  read_statement zero params me image at = on_word image at (λ w. statement_word me w) (λ w. refused 5 at)
  read_statement (suc l) params me image at = on_word image at (λ w. statement_word me w)
      (λ w. statement_at (λ a. read_expression l image a) (λ a. read_block l params me image a) params at w)

  pub read_block : ℕ → List ℕ → ℕ → List ℕ → ℕ → Parse Block
  read_block zero params me image at = on_word image at block_word (λ w. refused 5 at)
  read_block (suc l) params me image at =
      on_word image at block_word (λ w. read_statements (payload_of w) (λ a. read_statement l params me image a) (at + 1))

-- "4, type": that many type words
unfoldable pub read_types : ℕ → List ℕ → ℕ → Parse (List ℕ)
read_types zero image at = got [] at
read_types (suc n) image at =
    on_word image at type_word (λ w. and_then (read_types n image (at + 1)) (λ ts m. got (w ∷ ts) m))

-- "3 starts a procedure": its word, "result, parameters, locals; then the body, a block"
unfoldable pub read_procedure : ℕ → List ℕ → ℕ → List ℕ → ℕ → Parse Procedure
read_procedure form params me image at = on_word image at (λ w. procedure_word form w)
    (λ w. on_word image (at + 1) type_word (λ r. and_then (read_types (parameters_of w + locals_of w) image (at + 1 + 1))
    (λ ts n. and_then (read_block (largest_level form) params me image n)
    (λ b m. got (record { place = at; mode = mode_of w; parameters = parameters_of w; result = r; types = ts; body = b })
    m))))

-- The procedures that are left, from number `me` on. Each one's number of parameters is known to those after it.
unfoldable pub read_procedures : ℕ → ℕ → List ℕ → ℕ → List ℕ → ℕ → Parse (List Procedure)
read_procedures zero form params me image at = got [] at
read_procedures (suc n) form params me image at = and_then (read_procedure form params me image at)
    (λ p m. and_then (read_procedures n form (set params me p.parameters) (me + 1) image m) (λ ps o. got (p ∷ ps) o))

-- "2, one per array", where the arrays before have the given number of cells
unfoldable pub read_arrays : ℕ → ℕ → List ℕ → ℕ → Parse (List ℕ)
read_arrays zero cells image at = got [] at
read_arrays (suc n) cells image at = on_word image at (λ w. array_word cells w)
    (λ w. and_then (read_arrays n (cells + array_length w) image (at + 1)) (λ ws m. got (w ∷ ws) m))

-- What follows a header, up to the image's end: "4 [first spare word]".
unfoldable pub read_rest : ℕ → List ℕ → Parse Image
read_rest header image = and_then (read_arrays (arrays_of header) 0 image 1)
    (λ ws n. and_then (read_procedures (procedures_of header) (form_of header) (replicate 32 0) 0 image n)
    (λ ps m. pick (eqb m (length image))
    (got (record { form = form_of header; arrays = ws; procedures = ps }) m)
    (refused 4 m)))

-- An image: "1 empty, too long or not whole words", "the header comes before the length". The first argument tells
-- whether the image came as whole words: no byte is left over after them.
unfoldable pub read_image : Bool → List ℕ → Parse Image
read_image whole image = pick (eqb (length image) 0) (refused 1 0)
    (pick (header_word (get_or image 0 0))
    (pick (whole && leb (length image) (largest_image (form_of (get_or image 0 0))))
    (read_rest (get_or image 0 0) image)
    (refused 1 0))
    (refused 2 0))
