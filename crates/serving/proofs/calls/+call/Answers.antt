-- `serving::calls::call`: what a longer image has behind its first words plays no part.
use Rattle.std.proofs.Common.{arith, rules, ◌∙◌}
use Rattle.requests.specs.FirstBytes.{first_length, first_shorter, first_called}
use Rattle.serving.proofs.calls.+call.Goals as goal

pub slice_bounds-call-end : goal.slice_bounds-call-end
slice_bounds-call-end t c = first_length c.args.image.now c.if-image-gt-ENOUGH.true

pub call-requires : goal.call-requires
call-requires t c = (omega (arith, first_shorter c.args.image.now c.if-image-gt-ENOUGH.true, c.decreases), search rules)

pub returns-then-image-gt-ENOUGH : goal.returns-then-image-gt-ENOUGH
returns-then-image-gt-ENOUGH t c = c.call.ensures ∙ first_called _ c.if-image-gt-ENOUGH.true _ _ _ _ _
