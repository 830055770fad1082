-- `serving::previews::preview`: what a longer image has behind its first words plays no part.
use Rattle.std.proofs.Common.{arith, rules, ◌∙◌}
use Rattle.requests.specs.FirstBytes.{first_length, first_shorter, first_previewed}
use Rattle.serving.proofs.previews.+preview.Goals as goal

pub slice_bounds-preview-end : goal.slice_bounds-preview-end
slice_bounds-preview-end t c = first_length c.args.image.now c.if-image-gt-ENOUGH.true

pub preview-requires : goal.preview-requires
preview-requires t c = (omega (arith, first_shorter c.args.image.now c.if-image-gt-ENOUGH.true, c.decreases), search rules)

pub returns-then-image-gt-ENOUGH : goal.returns-then-image-gt-ENOUGH
returns-then-image-gt-ENOUGH t c = c.preview.ensures ∙ first_previewed _ c.if-image-gt-ENOUGH.true _ _ _ _ _
