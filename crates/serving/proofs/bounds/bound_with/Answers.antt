-- `serving::bounds::bound_with`: on the words of an image that is ready.
use Rattle.std.proofs.Common.{◌≤◌, ◌/◌, length, sym, arith}
use lib.Seq.{length-take-le}
use Rattle.definitions.specs.Bytes.{Bytes}
use Rattle.serving.proofs.Rules.{bound_not, call_within, bound_known, bound_done}
use Rattle.serving.proofs.bounds.bound_with.Goals as goal
use Rattle.serving.proofs.bounds.bound_with.Goals.{In-Ok}

bytes : (c : In-Ok) → Bytes c.args.cells.now
bytes c = λ i. omega (arith, c.type_inv.cells i)

within : (c : In-Ok) → length c.args.image.now / 4 ≤ length c.prepare_to_serve.new.words
within c = call_within c.args.image.now c.args.cells.now _ _ _ _ (bytes c) _ c.prepare_to_serve.ensures _ c.in-Ok.is (omega arith)

pub slice_bounds-program-end : goal.slice_bounds-program-end
slice_bounds-program-end c = within c

pub slice_bounds-program-end-in-Ok : goal.slice_bounds-program-end-in-Ok
slice_bounds-program-end-in-Ok c = sym (length-take-le _ _ (within c))

pub invariant_of-program : goal.invariant_of-program
invariant_of-program c =
    record { known = bound_known c.args.image.now c.args.cells.now _ _ _ _ (λ i. omega (arith, c.type_inv.cells i)) _ c.prepare_to_serve.ensures _ c.in-Ok.is }

pub returns-in-Err : goal.returns-in-Err
returns-in-Err c =
    bound_not c.args.image.now c.args.cells.now (λ i. omega (arith, c.type_inv.cells i)) _ _ c.in-Err.is c.prepare_to_serve.ensures.answer c.args.f

pub returns-in-Ok : goal.returns-in-Ok
returns-in-Ok c =
    bound_done c.args.image.now c.args.cells.now _ _ _ _ (λ i. omega (arith, c.type_inv.cells i)) _ c.prepare_to_serve.ensures _ c.in-Ok.is _ c.args.f
    c.bound.ensures
