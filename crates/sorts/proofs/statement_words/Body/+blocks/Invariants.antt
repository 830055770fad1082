-- The measures of the functions that judge statements, by the levels that are left, and what the loop over the statements of a block
-- keeps: with what is left of them it finds what the whole block gives.
use Rattle.std.proofs.Common.{◌≡◌, true, ◌+◌, ◌-◌, ◌*◌, ◌≤◌}
use Rattle.definitions.specs.Reading.{read_block}
use Rattle.laws.specs.Parses.{ok}
use Rattle.laws.specs.ImageIn.{procedures_in}
use Rattle.image_words.specs.Read.{statements_at}
use Rattle.tables.specs.Table.{array_count_in, params_in}
use Rattle.sorts.specs.Walk.{block_walked}
use Rattle.sorts.proofs.statement_words.Body.+blocks.Given as goal

abbrev pub decreases-check_block : goal.decreases-check_block
decreases-check_block l = 3 * l.level

abbrev pub decreases-check_for : goal.decreases-check_for
decreases-check_for l = 3 * l.level + 1

abbrev pub decreases-check_if : goal.decreases-check_if
decreases-check_if l = 3 * l.level + 1

abbrev pub decreases-check_statement : goal.decreases-check_statement
decreases-check_statement l = 3 * l.level + 2

abbrev pub invariant-check_block-loop : goal.invariant-check_block-loop
invariant-check_block-loop l =
    let image = l.self.words.image.now in
    let table = l.self.words.table.now in
    let left = statements_at (l.count - l.counter) (l.level - 1) (params_in table) l.self.words.me image l.walked.next in
    (l.counter ≤ l.count) × (l.marks ≡ l.initial.marks) × (ok left ≡ true)
    × (block_walked (procedures_in image) l.self.words.types.now (array_count_in table) l.marks l.self.scope l.walked.best left
    ≡ block_walked (procedures_in image) l.self.words.types.now (array_count_in table) l.initial.marks l.self.scope l.fn.best
    (read_block l.level (params_in table) l.self.words.me image l.at))
