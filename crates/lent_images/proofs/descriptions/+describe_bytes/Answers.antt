-- A longer image is cut to its first bytes, which tell its answer.
use Rattle.std.proofs.Common.{◌∙◌, arith}
use Rattle.requests.specs.FirstBytes.{first_length, first_shorter, first_described}
use Rattle.lent_images.proofs.descriptions.+describe_bytes.Goals as goal

pub slice_bounds-describe_bytes-end : goal.slice_bounds-describe_bytes-end
slice_bounds-describe_bytes-end t c = first_length c.args.image.now c.if-image-gt-ENOUGH.true

pub describe_bytes-requires : goal.describe_bytes-requires
describe_bytes-requires t c = (omega (arith, first_shorter c.args.image.now c.if-image-gt-ENOUGH.true, c.decreases), tt)

pub returns-then-image-gt-ENOUGH : goal.returns-then-image-gt-ENOUGH
returns-then-image-gt-ENOUGH t c = c.describe_bytes.ensures ∙ first_described _ c.if-image-gt-ENOUGH.true _
