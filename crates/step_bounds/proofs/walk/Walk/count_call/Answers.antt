-- A callee stands before its caller.
use Rattle.std.proofs.Common.{refl, sym}
use Rattle.image_words.specs.Rest.{call_skips}
use Rattle.step_bounds.proofs.Rules.{callee_there, count_call}
use Rattle.step_bounds.proofs.walk.Walk.count_call.Goals as goal

pub bounds-self-wide : goal.bounds-self-wide
bounds-self-wide c =
    callee_there c.args.self.callees.now c.args.before _ _ _ _ c.requires.0.read _ _ c.requires.1 c.requires.3 c.called-f.ensures.0 c.wide.ensures.0

pub skip-requires : goal.skip-requires
skip-requires c =
    call_skips _ _ _ _ _ c.requires.0.read 5 (sym c.requires.3) refl _ _ _ c.called-f.ensures.0 c.parameters.ensures c.wide-2.ensures.0

pub returns : goal.returns
returns c =
    count_call c.args.self.callees.now c.args.before _ _ _ _ c.requires.0.read _ _ _ _ _ _ _ _ _ c.requires.3 c.called-f.ensures.0 c.parameters.ensures
    c.wide-2.ensures.0 c.skip.ensures c.wide.ensures.0 refl c.sum.ensures.0 c.sum-2.ensures.0 c.lower.ensures
