-- An if and a for stand below their statement, a statement below its block; the rest of a block gives what the whole block gives.
use Rattle.std.proofs.Common.{◌-◌, ◌≡◌, ◌+◌, ◌*◌, true}
use Rattle.definitions.specs.Reading.{read_block}
use Rattle.laws.specs.Parses.{ok}
use Rattle.laws.specs.ImageIn.{procedures_in}
use Rattle.image_words.specs.Read.{statements_at}
use Rattle.tables.specs.Table.{arrays_in, params_in}
use Rattle.locals.specs.Walk.{found_block}
use Rattle.locals.proofs.+blocks.Given as goal

abbrev pub decreases-find_block : goal.decreases-find_block
decreases-find_block l = 3 * l.level + 2

abbrev pub decreases-find_for : goal.decreases-find_for
decreases-find_for l = 3 * l.level

abbrev pub decreases-find_if : goal.decreases-find_if
decreases-find_if l = 3 * l.level

abbrev pub decreases-find_statement : goal.decreases-find_statement
decreases-find_statement l = 3 * l.level + 1

abbrev pub invariant-find_block-loop : goal.invariant-find_block-loop
invariant-find_block-loop l = record {
  read : ok (statements_at (l.count - l.counter) (l.level - 1) (params_in l.procedure.program.table.now) l.procedure.me l.procedure.program.image.now l.c.at) ≡ true;
  same : found_block (procedures_in l.procedure.program.image.now) (arrays_in l.procedure.program.table.now) l.procedure.types.now l.pc l.c
      (statements_at (l.count - l.counter) (l.level - 1) (params_in l.procedure.program.table.now) l.procedure.me l.procedure.program.image.now l.c.at)
      ≡ found_block (procedures_in l.procedure.program.image.now) (arrays_in l.procedure.program.table.now) l.procedure.types.now l.pc l.initial.c
      (read_block l.level (params_in l.procedure.program.table.now) l.procedure.me l.procedure.program.image.now l.fn.before.at);
}
