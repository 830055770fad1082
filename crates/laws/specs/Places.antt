-- Where parts stand: a part that was read ends behind its first word and within the image, and an expression's own place is
-- where it was read. Assumes nothing.
use Rattle.std.specs.Prelude.{◌≡◌, Bool, true, false, List, [], ◌∷◌, ℕ, ◌≤◌, ◌<◌, ltb, length}
use Rattle.std.proofs.Common.{arith}
use Rattle.definitions.specs.Choice.{pick}
use Rattle.definitions.specs.Image.{Expression, constant, boolean, variable, cell, unary, binary, select, place_of}
use Rattle.definitions.specs.Image.{Statement, assign, store, conditional, loop, return, call, Block}
use Rattle.definitions.specs.Reading.{got, read_expression, read_arguments, read_statements, read_statement, read_block}
use Rattle.definitions.specs.Encoding.{word_with, expression_words, statement_words, block_words}
use Rattle.laws.specs.Spelled.{On, on_none, on_more, on_end, on_length}
use Rattle.laws.specs.Reads.{ReadExpression, read_as, reads_expression, reads_arguments, reads_statements}
use Rattle.laws.specs.Reads.{reads_statement, reads_block}

-- each part has a word
pub expression_word_lem : (e : Expression) → 1 ≤ length (expression_words e)
unfolding expression_words
expression_word_lem (constant p v) = go (ltb v 268435456)
  where
    go : (b : Bool) → 1 ≤ length (pick b (word_with 7 v ∷ []) (word_with 8 0 ∷ v ∷ []))
    go true = omega arith
    go false = omega arith
expression_word_lem (boolean p v) = omega arith
expression_word_lem (variable p x) = omega arith
expression_word_lem (cell p a i) = omega arith
expression_word_lem (unary p o e) = omega arith
expression_word_lem (binary p o e f) = omega arith
expression_word_lem (select p c e f) = omega arith

pub statement_word_lem : (s : Statement) → 1 ≤ length (statement_words s)
unfolding statement_words
statement_word_lem (assign x e) = omega arith
statement_word_lem (store a i e) = omega arith
statement_word_lem (conditional c a b) = omega arith
statement_word_lem (loop x f t b) = omega arith
statement_word_lem (return e) = omega arith
statement_word_lem (call f x es) = omega arith

block_word_lem : (b : Block) → 1 ≤ length (block_words b)
unfolding block_words
block_word_lem b = omega arith

on_some : {image : List ℕ} {at next : ℕ} {ws : List ℕ} → On image at ws next → 1 ≤ length ws → (at < next) × (next ≤ length image)
on_some on_none h = absurd (omega arith)
on_some (on_more l e r) h = let a = on_end r in let b = on_length r (omega arith) in (omega arith, omega arith)

module _ (l : ℕ) (image : List ℕ) (at : ℕ) (e : Expression) (n : ℕ) (r : read_expression l image at ≡ got e n) where
  read : ReadExpression image l at e n
  read = read_as (rw r at (reads_expression image l at))

  pub place_of_lem : place_of e ≡ at
  place_of_lem = read.place

  pub expression_after : at < n
  expression_after = (on_some read.words (expression_word_lem e)).0

  pub expression_within : n ≤ length image
  expression_within = (on_some read.words (expression_word_lem e)).1

module _ (l : ℕ) (params : List ℕ) (me : ℕ) (image : List ℕ) (at n : ℕ) where
  pub statement_ends : (s : Statement) → read_statement l params me image at ≡ got s n → (at < n) × (n ≤ length image)
  statement_ends s r = on_some (read_as (rw r at (reads_statement image params me l at))).words (statement_word_lem s)

  pub block_ends_lem : (b : Block) → read_block l params me image at ≡ got b n → (at < n) × (n ≤ length image)
  block_ends_lem b r = on_some (read_as (rw r at (reads_block image params me l at))).words (block_word_lem b)

pub statements_end : (count l : ℕ) (params : List ℕ) (me : ℕ) (image : List ℕ) (at : ℕ) (b : Block) (n : ℕ) → at ≤ length image
    → read_statements count (λ a. read_statement l params me image a) at ≡ got b n → (at ≤ n) × (n ≤ length image)
statements_end count l params me image at b n h r =
    let o = (read_as (rw r at (reads_statements image params me l count (λ a. read_statement l params me image a) (λ a. reads_statement image params me l a) at))).words in
    let e = on_end o in let f = on_length o h in (omega arith, omega arith)

pub arguments_end : (count l : ℕ) (image : List ℕ) (at : ℕ) (es : List Expression) (n : ℕ) → at ≤ length image
    → read_arguments count (λ a. read_expression l image a) at ≡ got es n → (at ≤ n) × (n ≤ length image)
arguments_end count l image at es n h r =
    let o = (read_as (rw r at (reads_arguments image l count at))).words in
    let e = on_end o in let f = on_length o h in (omega arith, omega arith)
