-- The body of a procedure was read at its form's largest level.
use Rattle.std.proofs.Common.{◌≡◌, rules}
use Rattle.definitions.specs.Image.{guarded}
use Rattle.laws.specs.ImageIn.{image_in}
use Rattle.tables.specs.Looking.{procedure_in}
use Rattle.labels.proofs.ProcedureRules.{body_fine, procedure_labelled}
use Rattle.labels.proofs.procedures.label_procedure.Goals as goal

pub label_block-b-requires : goal.label_block-b-requires
label_block-b-requires c =
    let form : c.form-form.result ≡ (image_in c.procedure-procedure.result.program.image.now).form = cc in
    rw (c.of.ensures.0, c.of.ensures.1, c.of.ensures.3)
    (body_fine _ _ _ c.procedure-procedure.result.listed _ c.body.ensures _ _ form c.largest_level.ensures)

pub returns : goal.returns
returns c =
    let me : c.procedure-procedure.result.me ≡ c.args.me = cc in
    let image : c.procedure-procedure.result.program.image.now ≡ c.args.program.image.now = cc in
    let types : c.procedure-procedure.result.types.now ≡ (procedure_in c.procedure-procedure.result.program.image.now c.procedure-procedure.result.me).types = cc in
    let form : c.form-form.result ≡ (image_in c.procedure-procedure.result.program.image.now).form = cc in
    let result : c.result_type.result ≡ (procedure_in c.procedure-procedure.result.program.image.now c.procedure-procedure.result.me).result = cc in
    let mode : c.is_guarded.result ≡ guarded (procedure_in c.procedure-procedure.result.program.image.now c.procedure-procedure.result.me) = cc in
    let walked = rw (c.of.ensures.0, c.of.ensures.1, c.of.ensures.2, c.of.ensures.3) at c.label_block-b.ensures.0 in
    rw (← image, ← me)
    (procedure_labelled _ _ _ c.procedure-procedure.result.listed _ c.body.ensures _ _ form c.largest_level.ensures
    _ _ _ _ _ _ types (search rules) result mode walked)
