-- The checker refuses the image, or accepts it.
use Rattle.ready.proofs.Rules.{judge_refused, judge_arrays, judge_accepted}
use Rattle.ready.proofs.judge.Goals as goal

pub with_cells-requires : goal.with_cells-requires
with_cells-requires c = judge_arrays _ _ c.args.count _ c.check_with.ensures.0 c.in-Accepted.is _ _ c.check_with.ensures.1

pub returns-in-Refused : goal.returns-in-Refused
returns-in-Refused c = (judge_refused _ _ _ _ c.check_with.ensures.0 _ _ c.in-Refused.is, c.check_with.ensures.1)

pub returns-in-Accepted : goal.returns-in-Accepted
returns-in-Accepted c = (
  judge_accepted _ _ _ _ c.check_with.ensures.0 c.in-Accepted.is _ _ c.check_with.ensures.1 _ c.with_cells.ensures,
  c.check_with.ensures.1,
)
