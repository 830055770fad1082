-- The measures of the functions that read blocks and statements, the levels that are left, and what the loop over statements keeps: what is left
-- to read answers what the whole does, and the table of ends stays sound.
use Rattle.std.proofs.Common.{◌+◌, ◌-◌, ◌≡◌}
use Rattle.image_words.specs.Read.{statements_at}
use Rattle.tables.specs.Table.{params_in}
use Rattle.reader.specs.Answers.{answer}
use Rattle.reader.specs.Ends.{Sound}
use Rattle.reader.proofs.statement_words.ProcedureReader.+blocks.Given as goal

abbrev pub decreases-read_block : goal.decreases-read_block
decreases-read_block l = l.level

abbrev pub decreases-read_statement : goal.decreases-read_statement
decreases-read_statement l = l.level

abbrev pub invariant-read_block-loop : goal.invariant-read_block-loop
invariant-read_block-loop l =
    Sound l.self.image.now (params_in l.self.table.now) l.self.me l.ends
    × (answer (statements_at (l.count - l.counter) l.below (params_in l.self.table.now) l.self.me l.self.image.now l.end)
    ≡ answer (statements_at l.count l.below (params_in l.self.table.now) l.self.me l.self.image.now (l.at + 1)))
