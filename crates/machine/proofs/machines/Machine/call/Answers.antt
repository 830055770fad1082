-- `machine::Machine::call`: each answer of the run is a turn.
use Rattle.machine.proofs.TurnRules.{turn_done, turn_other}
use Rattle.machine.proofs.machines.Machine.call.Goals as goal

pub returns-in-Done : goal.returns-in-Done
returns-in-Done g c =
    turn_done c.args.self c.args.program.image.now _ c.requires.0.all c.spread.ensures _ _ _ _ _ _ _ _ c.call_on-answer.ensures _
    c.gathered.ensures.0 c.gathered.ensures.1 _ _ _ c.in-Done.is

pub returns-in-Stopped : goal.returns-in-Stopped
returns-in-Stopped g c =
    turn_other c.args.self c.args.program.image.now _ c.requires.0.all c.spread.ensures _ _ _ _ _ _ _ _ c.call_on-answer.ensures c.in-Stopped.is
