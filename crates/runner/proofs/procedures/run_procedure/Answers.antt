-- The run over bytes is the run over trace words; the cells and the bytes are those that the run left.
use Rattle.std.proofs.Common.{sym, ap, ◌∙◌}
use Rattle.tracing.specs.declared.Trace.{Trace}
use Rattle.runner.proofs.RunRules.{run_ended}
use Rattle.runner.proofs.procedures.run_procedure.Goals as goal

pub returns : goal.returns
returns c =
    let same = c.run_body-outcome.ensures.same in
    let trace = c.written-3-1.given.1 (sym same.1) in
    run_ended _ _ _ _ _ c.requires.listed _ _ _ _ c.run_body-outcome.ensures.answer _ _ _ (c.cells-1.given.1 (sym same.0)) trace
    (c.trace-1.given.1.1 (sym (ap (λ (t : Trace). t.bytes.ghost_name) trace ∙ same.2)))
