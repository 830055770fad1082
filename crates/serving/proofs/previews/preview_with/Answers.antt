-- `serving::previews::preview_with`: on the words of an image that is ready.
use Rattle.std.proofs.Common.{◌≤◌, ◌/◌, length, sym, arith}
use lib.Seq.{length-take-le}
use Rattle.definitions.specs.Bytes.{Bytes}
use Rattle.serving.proofs.Rules.{preview_not, call_within, call_serves, bound_known, preview_done}
use Rattle.serving.proofs.previews.preview_with.Goals as goal
use Rattle.serving.proofs.previews.preview_with.Goals.{In-Ok}

bytes : (c : In-Ok) → Bytes c.args.cells.now
bytes c = λ i. omega (arith, c.type_inv.cells i)

within : (c : In-Ok) → length c.args.image.now / 4 ≤ length c.prepare_to_serve.new.words
within c = call_within c.args.image.now c.args.cells.now _ _ _ _ (bytes c) _ c.prepare_to_serve.ensures _ c.in-Ok.is (omega arith)

pub slice_bounds-program-end : goal.slice_bounds-program-end
slice_bounds-program-end c = within c

pub slice_bounds-program-end-in-Ok : goal.slice_bounds-program-end-in-Ok
slice_bounds-program-end-in-Ok c = sym (length-take-le _ _ (within c))

pub invariant_of-program : goal.invariant_of-program
invariant_of-program c =
    record { known = bound_known c.args.image.now c.args.cells.now _ _ _ _ (λ i. omega (arith, c.type_inv.cells i)) _ c.prepare_to_serve.ensures _ c.in-Ok.is }

pub preview_cells-requires : goal.preview_cells-requires
preview_cells-requires c =
    call_serves c.args.image.now c.args.cells.now _ _ _ _ (λ i. omega (arith, c.type_inv.cells i)) _ c.prepare_to_serve.ensures _ c.in-Ok.is

pub returns-in-Err : goal.returns-in-Err
returns-in-Err c =
    preview_not c.args.image.now c.args.cells.now (λ i. omega (arith, c.type_inv.cells i)) _ _ c.in-Err.is c.prepare_to_serve.ensures.answer c.args.request.procedure
    c.args.request.arguments.now c.args.request.budget c.args.trace.now

pub returns-in-Ok : goal.returns-in-Ok
returns-in-Ok c =
    preview_done c.args.image.now c.args.cells.now _ _ _ _ (λ i. omega (arith, c.type_inv.cells i)) _ c.prepare_to_serve.ensures _ c.in-Ok.is _ c.args.trace.now _
    c.args.request.procedure c.args.request.arguments.now c.args.request.budget c.preview_cells.ensures.answer c.preview_cells.ensures.entries
