-- Document 01, "Image words": the words that spell a tree. Places in the tree are passed over.
use Rattle.std.specs.Prelude.{ℕ, ◌+◌, ◌*◌, ◌-◌, ltb, length}
use mathlib.Core.List.{List, [], ◌∷◌, ◌++◌, flat_map}
use Rattle.definitions.specs.Choice.{pick}
use Rattle.definitions.specs.Image.{Expression, constant, boolean, variable, cell, unary, binary, select}
use Rattle.definitions.specs.Image.{Statement, assign, store, conditional, loop, return, call, Block, done}
use Rattle.definitions.specs.Image.{sequence, Procedure, Image}

-- "kind in the top 4 bits (one hexadecimal digit), payload in the other 28"
abbrev pub word_with : ℕ → ℕ → ℕ
word_with kind payload = kind * 268435456 + payload

-- "7: constant below 2^28. 8 (payload 0): the next word is a raw constant of at least 2^28"
abbrev pub constant_words : ℕ → List ℕ
constant_words v = pick (ltb v 268435456) (word_with 7 v ∷ []) (word_with 8 0 ∷ v ∷ [])

-- "Expressions, operator first."
unfoldable pub expression_words : Expression → List ℕ
expression_words (constant p v) = constant_words v
expression_words (boolean p v) = word_with 9 v ∷ []
expression_words (variable p x) = word_with 10 x ∷ []
expression_words (cell p a i) = word_with 11 a ∷ expression_words i
expression_words (unary p o e) = word_with 12 o ∷ expression_words e
expression_words (binary p o e f) = word_with 13 o ∷ (expression_words e ++ expression_words f)
expression_words (select p c e f) = word_with 14 0 ∷ (expression_words c ++ (expression_words e ++ expression_words f))

unfoldable pub argument_words : List Expression → List ℕ
argument_words es = flat_map expression_words es

-- the number of statements of a block
unfoldable pub statement_count : Block → ℕ
statement_count done = 0
statement_count (sequence p s b) = 1 + statement_count b

-- "6, statement: op × 65536 + q."
abbrev pub statement_word_with : ℕ → ℕ → ℕ
statement_word_with op q = word_with 6 (op * 65536 + q)

-- "5, block: a count, then that many statements."
unfoldable mutual
  pub statement_words : Statement → List ℕ
  statement_words (assign x e) = statement_word_with 0 x ∷ expression_words e
  statement_words (store a i e) = statement_word_with 1 a ∷ (expression_words i ++ expression_words e)
  statement_words (conditional c a b) = statement_word_with 2 0
      ∷ (expression_words c
      ++ ((word_with 5 (statement_count a) ∷ statements_words a) ++ (word_with 5 (statement_count b) ∷ statements_words b)))
  statement_words (loop x f t b) = statement_word_with 3 x
      ∷ (expression_words f ++ (expression_words t ++ (word_with 5 (statement_count b) ∷ statements_words b)))
  statement_words (return e) = statement_word_with 4 0 ∷ expression_words e
  statement_words (call f x es) = statement_word_with 5 (f * 256 + x) ∷ argument_words es

  pub statements_words : Block → List ℕ
  statements_words done = []
  statements_words (sequence p s b) = statement_words s ++ statements_words b

unfoldable pub block_words : Block → List ℕ
block_words b = word_with 5 (statement_count b) ∷ statements_words b

-- "3 starts a procedure: mode × 65536 + parameters × 256 + locals"; "then the body, a block."
unfoldable pub procedure_words : Procedure → List ℕ
procedure_words p = word_with 3 (p.mode * 65536 + p.parameters * 256 + (length p.types - p.parameters))
    ∷ p.result ∷ (p.types ++ block_words p.body)

unfoldable pub procedures_words : List Procedure → List ℕ
procedures_words ps = flat_map procedure_words ps

-- "1: header, form × 65536 + arrays × 256 + procedures."
unfoldable pub image_words : Image → List ℕ
image_words image = word_with 1 (image.form * 65536 + length image.arrays * 256 + length image.procedures)
    ∷ (image.arrays ++ procedures_words image.procedures)
