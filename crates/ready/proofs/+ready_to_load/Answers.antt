-- A longer image is cut to its first bytes, which tell its answer.
use Rattle.std.proofs.Common.{arith}
use Rattle.requests.specs.FirstBytes.{first_length, first_shorter}
use Rattle.ready.proofs.Rules.{first_ready}
use Rattle.ready.proofs.+ready_to_load.Goals as goal

pub slice_bounds-ready_to_load-end : goal.slice_bounds-ready_to_load-end
slice_bounds-ready_to_load-end t c = first_length c.args.image.now c.if-image-gt-ENOUGH.true

pub ready_to_load-requires : goal.ready_to_load-requires
ready_to_load-requires t c = (omega (arith, first_shorter c.args.image.now c.if-image-gt-ENOUGH.true, c.decreases), c.requires)

pub returns-then-image-gt-ENOUGH : goal.returns-then-image-gt-ENOUGH
returns-then-image-gt-ENOUGH t c = first_ready c.args.image.now c.if-image-gt-ENOUGH.true c.args.count _ _ c.ready_to_load.ensures
