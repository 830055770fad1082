-- The place after the last word tells whether the words are too many or the array too short.
use Rattle.compiler.proofs.Image.{locals_within, words_over, output_short, all_written}
use Rattle.compiler.proofs.compile_accepted.Goals as goal

pub returns-then-largest_image-end : goal.returns-then-largest_image-end
returns-then-largest_image-end c =
    words_over _ (locals_within _ _ c.args.program.known c.requires) _ _ _ c.write_image-end.ensures _ c.largest_image.ensures
    c.if-largest_image-end.true _ c.number.ensures

pub returns-then-out-end : goal.returns-then-out-end
returns-then-out-end c =
    output_short _ (locals_within _ _ c.args.program.known c.requires) _ _ _ c.write_image-end.ensures _ c.largest_image.ensures
    c.if-largest_image-end.false _ c.write_image-end.auto.words c.if-out-end.true _ c.number-then-out-end.ensures

pub returns : goal.returns
returns c =
    all_written _ (locals_within _ _ c.args.program.known c.requires) _ _ _ c.write_image-end.ensures _ c.largest_image.ensures
    c.if-largest_image-end.false _ c.write_image-end.auto.words c.if-out-end.false
