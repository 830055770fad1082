-- The fields of the words that spell a tree, and that the reader takes them. Assumes nothing.
use Rattle.std.specs.Prelude.{ℕ, ◌+◌, ◌*◌, ◌≤◌, ◌<◌, true, ◌≡◌, refl, length}
use Rattle.std.proofs.Common.{arith, length-append, lt-ltb}
use Rattle.definitions.specs.Image.{kind_of, payload_of, op_of, target_of, called_of, result_of, expression_word}
use Rattle.definitions.specs.Image.{statement_word, block_word, Statement, assign, store, conditional, loop, return, call}
use Rattle.definitions.specs.Image.{Block, done, sequence}
use Rattle.definitions.specs.Encoding.{word_with, statement_word_with, statement_count, statement_words, statements_words}

pub kind_of_lem : (k p : ℕ) → p < 268435456 → kind_of (word_with k p) ≡ k
kind_of_lem k p h = omega arith

pub payload_of_lem : (k p : ℕ) → p < 268435456 → payload_of (word_with k p) ≡ p
payload_of_lem k p h = omega arith

pub op_of_lem : (op q : ℕ) → op < 4096 → q < 65536 → op_of (statement_word_with op q) ≡ op
op_of_lem op q h g = omega arith

pub target_of_lem : (op q : ℕ) → op < 4096 → q < 65536 → target_of (statement_word_with op q) ≡ q
target_of_lem op q h g = omega arith

pub called_of_lem : (f x : ℕ) → f < 256 → x < 256 → called_of (statement_word_with 5 (f * 256 + x)) ≡ f
called_of_lem f x h g = omega arith

pub result_of_lem : (f x : ℕ) → f < 256 → x < 256 → result_of (statement_word_with 5 (f * 256 + x)) ≡ x
result_of_lem f x h g = omega arith

-- the first word of each expression
pub boolean_word : (v : ℕ) → v < 2 → expression_word (word_with 9 v) ≡ true
unfolding expression_word
boolean_word v h = rw (kind_of_lem 9 v (omega arith), payload_of_lem 9 v (omega arith), lt-ltb v 2 h)

pub unary_word : (o : ℕ) → o < 3 → expression_word (word_with 12 o) ≡ true
unfolding expression_word
unary_word o h = rw (kind_of_lem 12 o (omega arith), payload_of_lem 12 o (omega arith), lt-ltb o 3 h)

pub binary_word : (o : ℕ) → o < 15 → expression_word (word_with 13 o) ≡ true
unfolding expression_word
binary_word o h = rw (kind_of_lem 13 o (omega arith), payload_of_lem 13 o (omega arith), lt-ltb o 15 h)

pub constant_word : (v : ℕ) → v < 268435456 → expression_word (word_with 7 v) ≡ true
unfolding expression_word
constant_word v h = rw (kind_of_lem 7 v h)

pub variable_word : (x : ℕ) → x < 268435456 → expression_word (word_with 10 x) ≡ true
unfolding expression_word
variable_word x h = rw (kind_of_lem 10 x h)

pub cell_word : (a : ℕ) → a < 268435456 → expression_word (word_with 11 a) ≡ true
unfolding expression_word
cell_word a h = rw (kind_of_lem 11 a h)

-- the word of each statement
pub plain_word : (me op q : ℕ) → op < 2 → q < 65536 → statement_word me (statement_word_with op q) ≡ true
unfolding statement_word
plain_word me op q h g = rw (kind_of_lem 6 (op * 65536 + q) (omega arith), op_of_lem op q (omega arith) g, lt-ltb op 2 h)

pub conditional_word : (me : ℕ) → statement_word me (statement_word_with 2 0) ≡ true
unfolding statement_word
conditional_word me = refl

pub loop_word : (me q : ℕ) → q < 65536 → statement_word me (statement_word_with 3 q) ≡ true
unfolding statement_word
loop_word me q g = rw (kind_of_lem 6 (3 * 65536 + q) (omega arith), op_of_lem 3 q (omega arith) g)

pub return_word : (me : ℕ) → statement_word me (statement_word_with 4 0) ≡ true
unfolding statement_word
return_word me = refl

pub call_word : (me f x : ℕ) → f < me → f < 256 → x < 256 → statement_word me (statement_word_with 5 (f * 256 + x)) ≡ true
unfolding statement_word
call_word me f x h g k = rw (kind_of_lem 6 (5 * 65536 + (f * 256 + x)) (omega arith), op_of_lem 5 (f * 256 + x) (omega arith) (omega arith), called_of_lem f x g k, lt-ltb f me h)

pub block_word_lem : (n : ℕ) → n < 268435456 → block_word (word_with 5 n) ≡ true
unfolding block_word
block_word_lem n h = rw (kind_of_lem 5 n h)

-- a block has at most as many statements as words
pub first_word : (s : Statement) → 1 ≤ length (statement_words s)
unfolding statement_words
first_word (assign x e) = omega arith
first_word (store a i e) = omega arith
first_word (conditional c a b) = omega arith
first_word (loop x f t b) = omega arith
first_word (return e) = omega arith
first_word (call f x es) = omega arith

pub count_words : (b : Block) → statement_count b ≤ length (statements_words b)
unfolding statement_count statements_words
count_words done = omega arith
count_words (sequence p s b) = rw (length-append (statement_words s) (statements_words b)) (let h = first_word s in let k = count_words b in omega arith)
