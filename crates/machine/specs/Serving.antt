-- What a call and a preview on an accepted image need, and what they give. Assumes nothing.
use Rattle.std.specs.Prelude.{◌≡◌, List, [], ℕ, length, take}
use Rattle.definitions.specs.Bytes.{lent}
use Rattle.definitions.specs.declared.Answer.{Answer}
use Rattle.definitions.specs.declared.Answer.TheVariants.{Done, Stopped, Refused}
use Rattle.definitions.specs.Image.{cell_count, Image, procedure_at}
use Rattle.definitions.specs.Running.{trace_words, run_procedure}
use Rattle.definitions.specs.Requests.{Called, ended}
use Rattle.laws.specs.ImageIn.{image_in}
use Rattle.tables.specs.Table.{params_in, Known}
use Rattle.reader.specs.Ends.{BlockEnds}
use Rattle.machine.specs.declared.machines.Machine.{Machine}
use Rattle.machine.specs.declared.machines.Turn.{Turn}
use Rattle.machine.specs.Turns.{held, Kept}

-- a machine has as many cells as the image's arrays
abbrev pub Whole : List ℕ → ℕ → Type 0
Whole image count = count ≡ cell_count (image_in image).arrays

-- the tables are those that reading the image left, and the machine has its cells
pub record Serves (image table ends : List ℕ) (count : ℕ) : Type 0 where
  pub known : Known image table
  pub block_ends : BlockEnds image (params_in table) ends
  pub all : Whole image count

-- a call whose procedure and number of arguments were tested
unfoldable pub ran_on : Image → List ℕ → ℕ → List ℕ → ℕ → ℕ → Called
ran_on tree cells f values budget room =
    ended (procedure_at tree.procedures f) cells
    (run_procedure (trace_words room) budget tree.arrays tree.procedures (length tree.procedures) f values 0 [] cells)

-- the image's own cells, of those in an array
abbrev pub own_in : List ℕ → List ℕ → List ℕ
own_in image cells = take (cell_count (image_in image).arrays) cells

-- the cells after a call that ran in an array: "cells are as before the call", unless it is done
abbrev pub left : Answer → List ℕ → List ℕ → List ℕ
left (Done v z n) before after = after
left (Stopped k p z n) before after = before
left (Refused k p) before after = before

-- A call that ran in an array gives what the definition's call gives: the answer, the cells, as many as before, and the lent trace. Nothing is said of
-- the array's words behind the image's own, nor of any after a stop or a refusal: they are dropped.
pub record Outcome (image first last : List ℕ) (r : Answer) (before after : List ℕ) (q : Called) : Type 0 where
  pub answer : r ≡ q.0
  pub cells : own_in image (left r first last) ≡ q.1
  pub whole : length (own_in image (left r first last)) ≡ length (own_in image first)
  pub trace : after ≡ lent before q.2

-- The turn gives what the definition's call gives, the lent trace too, and the machine holds as many cells as before.
pub record TurnedCall {N : ℕ} (m : Machine N) (r : Turn N) (before after : List ℕ) (q : Called) : Type 0 where
  pub answer : r.answer ≡ q.0
  pub cells : held r.machine ≡ q.1
  pub trace : after ≡ lent before q.2
  pub kept : Kept r.answer m r.machine

-- The turn gives the answer and the lent trace of the definition's call, and the machine that came in, its array's spare words too.
pub record TurnedPreview {N : ℕ} (m : Machine N) (r : Turn N) (before after : List ℕ) (q : Called) : Type 0 where
  pub answer : r.answer ≡ q.0
  pub trace : after ≡ lent before q.2
  pub machine : r.machine ≡ m
