-- Each way in which a comparison goes on or ends.
use Rattle.std.proofs.Common.{arith}
use Rattle.comparing.proofs.Rules.{begun, parted, passed, probe_longer, both_over}
use Rattle.comparing.proofs.compare.Goals as goal

pub loop-entry-init : goal.loop-entry-init
loop-entry-init c = record { within = omega arith; left = begun c.args.trace.now c.args.probe.now }

pub returns-in_default : goal.returns-in_default
returns-in_default c = parted _ _ _ _ c.loop-entry.invariant.left c.in_default.ensures

pub loop-entry-preserved : goal.loop-entry-preserved
loop-entry-preserved c =
    let (l, e) = passed _ _ _ _ c.loop-entry.invariant.left _ _ (omega arith) c.in-Some.ensures in record { within = l; left = e }

pub returns-then-n-probe : goal.returns-then-n-probe
returns-then-n-probe c = probe_longer _ _ _ _ c.loop-entry.invariant.left (omega arith) c.if-n-probe.true

pub returns : goal.returns
returns c = both_over _ _ _ _ c.loop-entry.invariant.left (omega arith) c.if-n-probe.false
