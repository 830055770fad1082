-- The measures of the functions that mark loop variables, by the levels that are left, and what the loop over the statements of a
-- block keeps: what is left of them marks as the whole block does.
use Rattle.std.proofs.Common.{◌≡◌, true, ◌+◌, ◌-◌, ◌*◌, ◌≤◌}
use Rattle.definitions.specs.Reading.{read_block}
use Rattle.laws.specs.Parses.{ok}
use Rattle.image_words.specs.Read.{statements_at}
use Rattle.tables.specs.Table.{params_in}
use Rattle.sorts.specs.Marking.{block_marks}
use Rattle.sorts.proofs.marks.+marking.Given as goal

abbrev pub decreases-mark_block : goal.decreases-mark_block
decreases-mark_block l = 2 * l.level

abbrev pub decreases-mark_statement : goal.decreases-mark_statement
decreases-mark_statement l = 2 * l.level + 1

abbrev pub invariant-mark_block-loop : goal.invariant-mark_block-loop
invariant-mark_block-loop l =
    let table = params_in l.words.table.now in
    let me = l.words.me in
    let image = l.words.image.now in
    (l.counter ≤ l.count) × (ok (statements_at (l.count - l.counter) (l.level - 1) table me image l.a) ≡ true)
    × (block_marks (statements_at (l.count - l.counter) (l.level - 1) table me image l.a) l.marks
    ≡ block_marks (read_block l.level table me image l.at) l.initial.marks)
