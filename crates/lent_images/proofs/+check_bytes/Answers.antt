-- A longer image is cut to its first bytes, which tell its answer.
use Rattle.std.proofs.Common.{◌∙◌, arith}
use Rattle.requests.specs.FirstBytes.{first_length, first_shorter, first_checked}
use Rattle.lent_images.proofs.+check_bytes.Goals as goal

pub slice_bounds-check_bytes-end : goal.slice_bounds-check_bytes-end
slice_bounds-check_bytes-end t c = first_length c.args.image.now c.if-image-gt-ENOUGH.true

pub check_bytes-requires : goal.check_bytes-requires
check_bytes-requires t c = (omega (arith, first_shorter c.args.image.now c.if-image-gt-ENOUGH.true, c.decreases), tt)

pub returns-then-image-gt-ENOUGH : goal.returns-then-image-gt-ENOUGH
returns-then-image-gt-ENOUGH t c = c.check_bytes.ensures ∙ first_checked _ c.if-image-gt-ENOUGH.true
