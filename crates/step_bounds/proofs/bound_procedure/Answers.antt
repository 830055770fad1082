-- One procedure more is known.
use Rattle.step_bounds.specs.Summaries.{none_known}
use Rattle.step_bounds.proofs.ProcedureRules.{place_there, more_known, last_few, last_answer}
use Rattle.step_bounds.proofs.bound_procedure.Goals as goal

pub loop-g-init : goal.loop-g-init
loop-g-init c = none_known _

pub bounds-callees-wide : goal.bounds-callees-wide
bounds-callees-wide c = place_there c.args.program.known c.requires _ c.loop-g.invariant c.loop-g-test.true _ c.wide.ensures.0

pub loop-g-preserved : goal.loop-g-preserved
loop-g-preserved c =
    more_known c.args.program.known c.requires _ c.loop-g.invariant c.loop-g-test.true _ c.count_procedure-found.ensures _ _ c.wide.ensures.0
    c.lowest_with.ensures

pub judge-requires : goal.judge-requires
judge-requires c =
    last_few c.args.program.known c.requires _ c.loop-g.invariant c.loop-g-test.false c.loop-g.auto.g-end _ c.count_procedure-found-2.ensures

pub returns : goal.returns
returns c =
    last_answer c.args.program.known c.requires _ c.loop-g.invariant c.loop-g-test.false c.loop-g.auto.g-end _ c.count_procedure-found-2.ensures _
    c.judge.ensures
