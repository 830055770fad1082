-- `machine::Machine::clear`: every cell is 0.
use Rattle.machine.proofs.MachineRules.{cleared}
use Rattle.machine.proofs.machines.Machine.clear.Goals as goal

pub returns : goal.returns
returns g c = cleared c.args.self _
