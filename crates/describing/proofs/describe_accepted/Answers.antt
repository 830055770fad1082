-- The output is too short, or all is written.
use Rattle.describing.proofs.Rules.{output_short, all_written}
use Rattle.describing.proofs.describe_accepted.Goals as goal

pub returns-then-out-count : goal.returns-then-out-count
returns-then-out-count c = output_short _ _ _ c.args.program.known c.requires _ c.size-count.ensures c.if-out-count.true _ c.number.ensures

pub returns : goal.returns
returns c =
    all_written _ _ _ c.args.program.known c.requires _ c.size-count.ensures c.if-out-count.false _ _ c.put_image.ensures.0 c.put_image.ensures.1 c.out-1.given
