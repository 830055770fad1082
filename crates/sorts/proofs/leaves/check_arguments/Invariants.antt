-- What the loop over the values of a call keeps: with what is left of them it finds what all of them give.
use Rattle.std.proofs.Common.{◌≡◌, true, ◌-◌, ◌≤◌}
use Rattle.laws.specs.Parses.{ok}
use Rattle.image_words.specs.Read.{arguments_at}
use Rattle.tables.specs.Table.{array_count_in}
use Rattle.sorts.specs.Walk.{arguments_walked}
use Rattle.sorts.proofs.leaves.check_arguments.Given as goal

abbrev pub invariant-loop-k : goal.invariant-loop-k
invariant-loop-k l =
    let types = l.walk.words.types.now in
    let arrays = array_count_in l.walk.words.table.now in
    let image = l.walk.words.image.now in
    (l.k ≤ l.count) × (ok (arguments_at (l.count - l.k) l.level image l.walked.next) ≡ true)
    × (arguments_walked types arrays l.walk.marks.now l.callee l.k l.walked.best (arguments_at (l.count - l.k) l.level image l.walked.next)
    ≡ arguments_walked types arrays l.walk.marks.now l.callee 0 l.fn.best (arguments_at l.count l.level image l.at))
