-- `serving::bounds::bound`: what a longer image has behind its first words plays no part.
use Rattle.std.proofs.Common.{arith, rules, ◌∙◌}
use Rattle.requests.specs.FirstBytes.{first_length, first_shorter, first_bounded}
use Rattle.serving.proofs.bounds.+bound.Goals as goal

pub slice_bounds-bound-end : goal.slice_bounds-bound-end
slice_bounds-bound-end t c = first_length c.args.image.now c.if-image-gt-ENOUGH.true

pub bound-requires : goal.bound-requires
bound-requires t c = (omega (arith, first_shorter c.args.image.now c.if-image-gt-ENOUGH.true, c.decreases), search rules)

pub returns-then-image-gt-ENOUGH : goal.returns-then-image-gt-ENOUGH
returns-then-image-gt-ENOUGH t c = c.bound.ensures ∙ first_bounded _ c.if-image-gt-ENOUGH.true _ _
