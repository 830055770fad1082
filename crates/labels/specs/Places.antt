-- What the walk of the part at a cursor gives, by what the part is judged by. Assumes nothing.
use Rattle.std.specs.Prelude.{ℕ, List, get_or}
use Rattle.definitions.specs.declared.ConstantLoop.{ConstantLoop}
use Rattle.definitions.specs.Image.{kind_of, op_of}
use Rattle.definitions.specs.Reading.{read_expression, read_statement, read_block}
use Rattle.laws.specs.ImageIn.{procedures_in}
use Rattle.image_words.specs.Read.{ExpressionRead, StatementRead}
use Rattle.tables.specs.Table.{arrays_in, params_in}
use Rattle.contexts.specs.declared.Context.{Context}
use Rattle.labels.specs.Enclosing.{bounds_in}
use Rattle.labels.specs.Walk.{labelled}
use Rattle.labels.specs.Blocks.{walked, walked_block}
use Rattle.labels.specs.declared.Cursor.{Cursor}
use Rattle.labels.specs.declared.Around.{Around}
use Rattle.labels.specs.declared.Scope.{Scope}
use Rattle.labels.specs.declared.Labelled.{Labelled}
use Rattle.labels.specs.declared.Walked.{Walked}

-- an expression
abbrev pub expression_at : Around → Cursor → ℕ → Labelled
expression_at a c level =
    labelled a.body.types.now (arrays_in a.body.table.now) (bounds_in a.enclosing.now.loops) a.secret c.best
    (read_expression level a.body.image.now c.at)

-- a statement, inside some fors, in a context
abbrev pub statement_at : Scope → List ConstantLoop → Context → Cursor → ℕ → Walked
statement_at s bounds context c level =
    walked (procedures_in s.body.image.now) (arrays_in s.body.table.now) s.body.types.now bounds s.form s.result
    context.pc context.rc c.at c.best
    (read_statement level (params_in s.body.table.now) s.body.me s.body.image.now c.at)

-- a block
abbrev pub block_at : Scope → List ConstantLoop → Context → Cursor → ℕ → Walked
block_at s bounds context c level =
    walked_block (procedures_in s.body.image.now) (arrays_in s.body.table.now) s.body.types.now bounds s.form s.result
    context.pc context.rc c.best
    (read_block level (params_in s.body.table.now) s.body.me s.body.image.now c.at)

-- what a walk may take for granted of the part at its cursor, and the kind or the op of its word
abbrev pub ExpressionHere : Around → Cursor → ℕ → Type 0
ExpressionHere a c level = ExpressionRead level a.body.image.now c.at

abbrev pub kind_here : Around → Cursor → ℕ
kind_here a c = kind_of (get_or a.body.image.now c.at 0)

abbrev pub StatementHere : Scope → Cursor → ℕ → Type 0
StatementHere s c level = StatementRead level (params_in s.body.table.now) s.body.me s.body.image.now c.at

abbrev pub op_here : Scope → Cursor → ℕ
op_here s c = op_of (get_or s.body.image.now c.at 0)
