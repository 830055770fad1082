-- What emitting a statement or a block that was read leaves: the places after it, the statements counted on, the rc after it, and the words of its
-- compiled tree in the output. Assumes nothing.
use Rattle.std.specs.Prelude.{ℕ, ◌+◌, ◌*◌, ◌≤◌, ◌<◌, Bool, List, ◌∷◌, ◌++◌, eqb, length, get_or, ◌≡◌}
use Rattle.definitions.specs.Choice.{pick}
use Rattle.definitions.specs.Operators.{word_sort}
use Rattle.definitions.specs.Image.{op_of, Expression, Statement, Block, Procedure}
use Rattle.definitions.specs.Reading.{Parse, got, refused, read_statement, read_block}
use Rattle.definitions.specs.Labels.{rc_after, rc_after_block}
use Rattle.definitions.specs.Encoding.{statement_word_with, expression_words, statement_count, statements_words, block_words}
use Rattle.definitions.specs.Compiling.{moved, compiled_statement, compiled_block}
use Rattle.laws.specs.ImageIn.{procedures_in}
use Rattle.image_words.specs.Read.{StatementRead, BlockRead}
use Rattle.tables.specs.Table.{arrays_in, params_in}
use Rattle.writer.specs.Writing.{Output, writes, SameBuffer}
use Rattle.copying.specs.Copy.{Copied, spot}
use Rattle.masking.specs.declared.Act.{Act}
use Rattle.emission.specs.declared.Scope.{Scope}
use Rattle.emission.specs.declared.Cursor.{Cursor}
use Rattle.emission.specs.declared.Walk.{Walk}
use Rattle.writer.specs.declared.Output.{Output as Written}

-- the answer, and the output afterwards
abbrev pub Emission : Type 0
Emission = Cursor × Output

abbrev pub outcome : ℕ → ℕ → Bool → Output → Emission
outcome at n rc z = (record { at = at; n = n; rc = rc }, z)

-- the act under which a statement stands
abbrev pub act_at : Scope → Cursor → Act
act_at s c = record { pc = s.pc; arm = s.arm; rc = c.rc; live = s.rv + 1 }

-- the temporary for results of a sort
abbrev pub temporary_at : Scope → ℕ → ℕ
temporary_at s sort = pick (eqb sort word_sort) s.word s.boolean

-- The numbers of a walk are small enough that none of them overflows: they grow by at most two for each word of the source.
pub record Ready (image : List ℕ) (s : Scope) (c : Cursor) : Type 0 where
  pub short : length image ≤ 4096
  pub few_statements : c.n ≤ 2 * c.at + 10
  pub low_pair : s.pair ≤ 2 * c.at + 1000
  pub low_arm : s.arm ≤ 100000
  pub low_rv : s.rv ≤ 1000
  pub low_word : s.word ≤ 1000
  pub low_boolean : s.boolean ≤ 1000

-- how far a walk over an image of a size has come
pub record Grown (size : ℕ) (c d : Cursor) : Type 0 where
  pub onward : c.at < d.at
  pub within : d.at ≤ size
  pub statements : d.n + 2 * c.at ≤ c.n + 2 * d.at

-- the word of a public if and its condition
unfoldable pub if_head : ℕ → ℕ → List ℕ → Parse Expression → Copied
if_head first o out (got c n) = spot n (writes o out (statement_word_with 2 0 ∷ expression_words (moved first c)))
if_head first o out (refused n p) = spot 0 (o, out)

-- the word of a for and its bounds
unfoldable pub for_head : ℕ → ℕ → ℕ → List ℕ → Parse Expression → Parse Expression → Copied
for_head first y o out (got f n) (got t m) = spot m (writes o out (statement_word_with 3 y ∷ (expression_words (moved first f) ++ expression_words (moved first t))))
for_head first y o out (got f n) (refused m p) = spot 0 (o, out)
for_head first y o out (refused n p) x = spot 0 (o, out)

module _ (ps : List Procedure) (arrays types : List ℕ) (s : Scope) (c : Cursor) where
  -- what a statement and a block become where the walk is
  abbrev pub statement_code : Statement → Block
  statement_code x = compiled_statement ps arrays types s.first s.rv (temporary_at s) x s.pc s.arm c.rc s.pair

  abbrev pub block_code : Block → Block
  block_code b = compiled_block ps arrays types s.first s.rv (temporary_at s) b s.pc s.arm c.rc s.pair

  -- after a block that becomes a number of statements, with the output afterwards
  abbrev pub after_block : Block → ℕ → ℕ → Output → Emission
  after_block b at n z = outcome at n (rc_after_block types arrays s.pc c.rc b) z

  unfoldable pub emitted : ℕ → List ℕ → Parse Statement → Emission
  emitted o out (got x m) =
      outcome m (c.n + statement_count (statement_code x)) (rc_after types arrays s.pc c.rc x)
      (writes o out (statements_words (statement_code x)))
  emitted o out (refused m p) = outcome 0 c.n c.rc (o, out)

  -- the statements of a block, in line with those before them
  unfoldable pub emitted_block : ℕ → List ℕ → Parse Block → Emission
  emitted_block o out (got b m) = after_block b m (c.n + statement_count (block_code b)) (writes o out (statements_words (block_code b)))
  emitted_block o out (refused m p) = outcome 0 c.n c.rc (o, out)

  -- a block behind a word with its own count
  unfoldable pub emitted_body : ℕ → List ℕ → Parse Block → Emission
  emitted_body o out (got b m) = after_block b m (statement_count (block_code b)) (writes o out (block_words (block_code b)))
  emitted_body o out (refused m p) = outcome 0 c.n c.rc (o, out)

-- ---- a walk at a cursor

-- the statement there was read, and the numbers of the walk are small
abbrev pub StatementAt : Walk → ℕ → Cursor → Type 0
StatementAt w level c =
    StatementRead level (params_in w.procedure.program.table.now) w.procedure.me w.procedure.program.image.now c.at
    × Ready w.procedure.program.image.now w.scope c

abbrev pub OpIs : Walk → Cursor → ℕ → Type 0
OpIs w c op = op_of (get_or w.procedure.program.image.now c.at 0) ≡ op

abbrev pub BlockAt : Walk → ℕ → Cursor → Type 0
BlockAt w level c =
    BlockRead level (params_in w.procedure.program.table.now) w.procedure.me w.procedure.program.image.now c.at
    × Ready w.procedure.program.image.now w.scope c

-- the walk came on to a cursor: what was read there is written, behind what the output held before
abbrev pub Came : Walk → Cursor → Written → Written → Cursor → Emission → Type 0
Came w c old new d e =
    ◌≡◌ {A = Emission} (d, (new.place, new.words.now)) e × Grown (length w.procedure.program.image.now) c d × SameBuffer old new

abbrev pub StatementDone : Walk → ℕ → Cursor → Written → Written → Cursor → Type 0
StatementDone w level c old new d =
    let p = w.procedure in
    let image = p.program.image.now in
    let table = p.program.table.now in
    Came w c old new d
    (emitted (procedures_in image) (arrays_in table) p.types.now w.scope c old.place old.words.now (read_statement level (params_in table) p.me image c.at))

abbrev pub BlockDone : Walk → ℕ → Cursor → Written → Written → Cursor → Type 0
BlockDone w level c old new d =
    let p = w.procedure in
    let image = p.program.image.now in
    let table = p.program.table.now in
    Came w c old new d
    (emitted_block (procedures_in image) (arrays_in table) p.types.now w.scope c old.place old.words.now (read_block level (params_in table) p.me image c.at))

abbrev pub BodyDone : Walk → ℕ → Cursor → Written → Written → Cursor → Type 0
BodyDone w level c old new d =
    let p = w.procedure in
    let image = p.program.image.now in
    let table = p.program.table.now in
    Came w c old new d
    (emitted_body (procedures_in image) (arrays_in table) p.types.now w.scope c old.place old.words.now (read_block level (params_in table) p.me image c.at))
