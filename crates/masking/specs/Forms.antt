-- The words of the statements that the compiler makes, as the code writes them: over the expressions that were read at their places.
-- Assumes nothing.
use Rattle.std.specs.Prelude.{ℕ, ◌+◌, ◌*◌, ◌≤◌, Bool, true, false, ◌||◌, List, [], ◌∷◌, ◌++◌}
use Rattle.definitions.specs.Image.{Expression, variable, unary, cell, assign, store}
use Rattle.definitions.specs.Reading.{Parse, got, refused}
use Rattle.definitions.specs.Encoding.{word_with, statement_word_with, expression_words, argument_words, statement_words}
use Rattle.definitions.specs.Encoding.{statements_words}
use Rattle.definitions.specs.Compiling.{moved, moved_all, act, masked, under, compiled_return, compiled_call}
use Rattle.writer.specs.Writing.{Output, writes}
use Rattle.copying.specs.Copy.{Copied, spot}
use Rattle.masking.specs.declared.Act.{Act}
use Rattle.masking.specs.declared.Call.{Call}

abbrev pub act_of : Act → Expression
act_of a = act a.pc a.arm a.rc a.live

abbrev pub secret_context : Act → Bool
secret_context a = a.pc || a.rc

-- the variables of an act stand in words
pub record Bounded (a : Act) : Type 0 where
  pub arm_fits : a.arm ≤ 1000000
  pub live_fits : a.live ≤ 1000000

-- in a secret context a first word and the act
unfoldable pub prefix : Bool → ℕ → Expression → List ℕ
prefix true head a = head ∷ expression_words a
prefix false head a = []

-- in a secret context the variable that keeps its value
unfoldable pub old_variable : Bool → ℕ → List ℕ
old_variable true y = word_with 10 y ∷ []
old_variable false y = []

-- in a secret context the cell that keeps its value
unfoldable pub old_cell : Bool → ℕ → Expression → List ℕ
old_cell true a i = word_with 11 a ∷ expression_words i
old_cell false a i = []

-- a variable's choice between a value of one word and what it holds
abbrev pub selected_words : ℕ → Expression → ℕ → List ℕ
selected_words y a v = statement_word_with 0 y ∷ (word_with 14 0 ∷ (expression_words a ++ (v ∷ (word_with 10 y ∷ []))))

-- a masked assignment of a value that was read
unfoldable pub assigned : ℕ → ℕ → Act → ℕ → List ℕ → Parse Expression → Copied
assigned first y a o out (got e n) =
    spot n (writes o out (statement_words (assign y (masked (secret_context a) (act_of a) (moved first e) (variable 0 y)))))
assigned first y a o out (refused n p) = spot 0 (o, out)

-- the word of a store and its index
unfoldable pub indexed : ℕ → ℕ → ℕ → List ℕ → Parse Expression → Copied
indexed first c o out (got i n) = spot n (writes o out (statement_word_with 1 c ∷ expression_words (moved first i)))
indexed first c o out (refused n p) = spot 0 (o, out)

unfoldable pub kept_cell : Bool → ℕ → ℕ → ℕ → List ℕ → Parse Expression → Output
kept_cell secret first c o out (got i n) = writes o out (old_cell secret c (moved first i))
kept_cell secret first c o out (refused n p) = (o, out)

-- a masked store into array c of a value that was read, at an index that was read before it
unfoldable pub stored : ℕ → ℕ → Act → ℕ → List ℕ → Parse Expression → Parse Expression → Copied
stored first c a o out (got i n) (got e m) =
    spot m (writes o out (statement_words (store c (moved first i) (masked (secret_context a) (act_of a) (moved first e) (cell 0 c (moved first i))))))
stored first c a o out (got i n) (refused m p) = spot 0 (o, out)
stored first c a o out (refused n p) y = spot 0 (o, out)

unfoldable pub returned : ℕ → ℕ → Act → ℕ → List ℕ → Parse Expression → Copied
returned first rv a o out (got e n) = spot n (writes o out (statements_words (compiled_return (secret_context a) (act_of a) rv (moved first e))))
returned first rv a o out (refused n p) = spot 0 (o, out)

-- T and E of a secret if
abbrev pub condition_words : ℕ → Act → Expression → List ℕ
condition_words k a c =
    statement_words (assign k (under (secret_context a) (act_of a) c))
    ++ statement_words (assign (k + 1) (under (secret_context a) (act_of a) (unary 0 0 (variable 0 k))))

unfoldable pub conditioned : ℕ → ℕ → Act → ℕ → List ℕ → Parse Expression → Copied
conditioned first k a o out (got c n) = spot n (writes o out (condition_words k a (moved first c)))
conditioned first k a o out (refused n p) = spot 0 (o, out)

-- the word of a call and the values that were read
unfoldable pub call_head : ℕ → ℕ → ℕ → ℕ → List ℕ → Parse (List Expression) → Copied
call_head first f x o out (got es n) = spot n (writes o out (statement_word_with 5 (f * 256 + x) ∷ argument_words (moved_all first es)))
call_head first f x o out (refused n p) = spot 0 (o, out)

unfoldable pub called : ℕ → Call → Act → ℕ → List ℕ → Parse (List Expression) → Copied
called first c a o out (got es n) =
    spot n (writes o out (statements_words (compiled_call (secret_context a) c.guarded (act_of a) c.temporary c.called c.result (moved_all first es))))
called first c a o out (refused n p) = spot 0 (o, out)
