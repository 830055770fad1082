-- An if and a for stand below their statement, a statement below its block; the rest of a block gives what the whole block gives.
use Rattle.std.proofs.Common.{◌-◌, ◌≡◌, ◌+◌, ◌*◌, ◌≤◌, true}
use Rattle.definitions.specs.Reading.{read_block}
use Rattle.laws.specs.Parses.{ok}
use Rattle.image_words.specs.Read.{statements_at}
use Rattle.tables.specs.Table.{params_in}
use Rattle.step_bounds.specs.Counting.{counted_block}
use Rattle.step_bounds.proofs.walk.Walk.+blocks.Given as goal

abbrev pub decreases-count_block : goal.decreases-count_block
decreases-count_block l = 3 * l.level + 2

abbrev pub decreases-count_for : goal.decreases-count_for
decreases-count_for l = 3 * l.level

abbrev pub decreases-count_if : goal.decreases-count_if
decreases-count_if l = 3 * l.level

abbrev pub decreases-count_statement : goal.decreases-count_statement
decreases-count_statement l = 3 * l.level + 1

abbrev pub invariant-count_block-loop : goal.invariant-count_block-loop
invariant-count_block-loop l =
    let table = params_in l.self.table.now in
    let me = l.self.me in
    let image = l.self.image.now in
    record {
      within : l.counter ≤ l.count;
      read : ok (statements_at (l.count - l.counter) (l.level - 1) table me image l.c.at) ≡ true;
      is_capped : l.c.cost ≤ 4294967296;
      same : counted_block l.self.callees.now l.c (statements_at (l.count - l.counter) (l.level - 1) table me image l.c.at)
          ≡ counted_block l.self.callees.now l.initial.c (read_block l.level table me image l.at);
    }
