-- An if stands below its statement, a statement below its block; the rest of a block gives what the whole block gives.
use Rattle.std.proofs.Common.{◌-◌, ◌≡◌, ◌+◌, ◌*◌, true}
use Rattle.definitions.specs.Reading.{read_block}
use Rattle.laws.specs.Parses.{ok}
use Rattle.image_words.specs.Read.{statements_at}
use Rattle.tables.specs.Table.{arrays_in, params_in}
use Rattle.contexts.specs.Context.{passed_block}
use Rattle.contexts.proofs.+blocks.Given as goal

abbrev pub decreases-rc_block : goal.decreases-rc_block
decreases-rc_block l = 3 * l.level + 2

abbrev pub decreases-rc_if : goal.decreases-rc_if
decreases-rc_if l = 3 * l.level

abbrev pub decreases-rc_statement : goal.decreases-rc_statement
decreases-rc_statement l = 3 * l.level + 1

abbrev pub invariant-rc_block-loop : goal.invariant-rc_block-loop
invariant-rc_block-loop l = record {
  read : ok (statements_at (l.count - l.counter) (l.level - 1) (params_in l.body.table.now) l.body.me l.body.image.now l.a) ≡ true;
  same : passed_block l.body.types.now (arrays_in l.body.table.now) l.context.pc l.r (statements_at (l.count - l.counter) (l.level - 1) (params_in l.body.table.now) l.body.me l.body.image.now l.a)
      ≡ passed_block l.body.types.now (arrays_in l.body.table.now) l.context.pc l.context.rc (read_block l.level (params_in l.body.table.now) l.body.me l.body.image.now l.at);
}
