-- `machine::Machine::peek`: the cell that was found is one of the machine's.
use Rattle.std.proofs.Common.{arith, refl}
use Rattle.machine.proofs.MachineRules.{no_peek, peeked, slot_small, slot_within}
use Rattle.machine.proofs.machines.Machine.peek.Goals as goal

pub offset_bounds-self-at : goal.offset_bounds-self-at
offset_bounds-self-at g c = let small = slot_small c.args.self c.args.table.now _ _ c.requires _ c.find_cell.ensures _ c.in-Some.is in omega arith

pub bounds-self-at : goal.bounds-self-at
bounds-self-at g c = slot_within c.args.self c.args.table.now _ _ c.requires _ c.find_cell.ensures _ c.in-Some.is

pub returns : goal.returns
returns g c = peeked c.args.self c.args.table.now _ _ c.requires _ c.find_cell.ensures _ c.in-Some.is _ refl

pub returns-in_default : goal.returns-in_default
returns-in_default g c = no_peek c.args.self c.args.table.now _ _ c.requires _ c.find_cell.ensures _ c.in_default.is refl c.missing.ensures
