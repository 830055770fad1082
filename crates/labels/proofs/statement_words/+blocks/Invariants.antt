-- An if and a for stand below their statement, a statement below its block; the rest of a block gives what the whole block gives.
use Rattle.std.proofs.Common.{◌-◌, ◌≡◌, ◌+◌, ◌*◌, true}
use Rattle.definitions.specs.Reading.{read_block}
use Rattle.laws.specs.Parses.{ok}
use Rattle.laws.specs.ImageIn.{procedures_in}
use Rattle.image_words.specs.Read.{statements_at}
use Rattle.tables.specs.Table.{arrays_in, params_in}
use Rattle.labels.specs.Enclosing.{bounds_in}
use Rattle.labels.specs.Blocks.{walked_block}
use Rattle.labels.proofs.statement_words.+blocks.Given as goal

abbrev pub decreases-label_block : goal.decreases-label_block
decreases-label_block l = 3 * l.level + 2

abbrev pub decreases-label_for : goal.decreases-label_for
decreases-label_for l = 3 * l.level

abbrev pub decreases-label_if : goal.decreases-label_if
decreases-label_if l = 3 * l.level

abbrev pub decreases-label_statement : goal.decreases-label_statement
decreases-label_statement l = 3 * l.level + 1

abbrev pub invariant-label_block-loop : goal.invariant-label_block-loop
invariant-label_block-loop l = record {
  outside : bounds_in l.enclosing.loops ≡ bounds_in l.initial.enclosing.loops;
  read : ok (statements_at (l.count - l.counter) (l.level - 1) (params_in l.walk.scope.body.table.now) l.walk.scope.body.me l.walk.scope.body.image.now l.a.at) ≡ true;
  same : walked_block (procedures_in l.walk.scope.body.image.now) (arrays_in l.walk.scope.body.table.now) l.walk.scope.body.types.now (bounds_in l.enclosing.loops)
      l.walk.scope.form l.walk.scope.result l.context.pc l.r l.a.best
      (statements_at (l.count - l.counter) (l.level - 1) (params_in l.walk.scope.body.table.now) l.walk.scope.body.me l.walk.scope.body.image.now l.a.at)
      ≡ walked_block (procedures_in l.walk.scope.body.image.now) (arrays_in l.walk.scope.body.table.now) l.walk.scope.body.types.now (bounds_in l.initial.enclosing.loops)
      l.walk.scope.form l.walk.scope.result l.context.pc l.context.rc l.fn.cursor.best
      (read_block l.level (params_in l.walk.scope.body.table.now) l.walk.scope.body.me l.walk.scope.body.image.now l.fn.cursor.at);
}
