-- `machine::runs::run`: the run's frame holds the arguments, and the run over the whole array is the run over the image's own cells.
use Rattle.std.proofs.Common.{refl}
use Rattle.tables.specs.Looking.{few_cells}
use Rattle.machine.proofs.CallRules.{arguments_fit, given, values_few, run_given}
use Rattle.machine.proofs.TurnRules.{run_done, run_stopped}
use Rattle.machine.proofs.runs.run.Goals as goal

pub fill_values-requires : goal.fill_values-requires
fill_values-requires c =
    let (types, most) = arguments_fit _ _ _ c.requires.0.listed _ c.requires.1 c.procedure.ensures.typed (refl, refl, refl) in
    (types, most, refl)

pub returns-in-Err : goal.returns-in-Err
returns-in-Err c =
    run_given _ _ _ _ _ _ _ _ _ _ _ (given _ {table = c.args.program.table.now} c.procedure.ensures.typed (refl, refl, refl) c.fill_values.ensures) (values_few _ _ _ c.requires.0.listed c.args.call.arguments.now c.requires.1)
    (run_stopped _ _ _ _ _ _ c.told-cells (few_cells _ _ c.args.program.known) _ _ _ _ c.run_procedure-run.ensures _ _ c.in-Err.is c.number.ensures)

pub returns-in-Ok : goal.returns-in-Ok
returns-in-Ok c =
    run_given _ _ _ _ _ _ _ _ _ _ _ (given _ {table = c.args.program.table.now} c.procedure.ensures.typed (refl, refl, refl) c.fill_values.ensures) (values_few _ _ _ c.requires.0.listed c.args.call.arguments.now c.requires.1)
    (run_done _ _ _ _ _ _ c.told-cells (few_cells _ _ c.args.program.known) _ _ _ _ c.run_procedure-run.ensures _ _ _ c.in-Ok.is c.result_type.ensures
    c.answer_of.ensures)
