-- What the compiler wrote goes into the lent bytes.
use Rattle.lent_images.proofs.Rules.{hand_over_asks, attempted}
use Rattle.lent_images.proofs.compile_with.Goals as goal

pub hand_over-requires : goal.hand_over-requires
hand_over-requires c =
    hand_over_asks _ c.args.out.now c.args.res.now c.compile_within-answer.new.res _ _ _ c.room_in-room.ensures c.compile_within-answer.ensures
    c.compile_within-answer.auto.res

pub returns : goal.returns
returns c =
    attempted _ c.args.out.now c.args.res.now c.compile_within-answer.new.res _ _ _ c.room_in-room.ensures c.compile_within-answer.ensures
    c.args.image.now c.read_image-n.ensures.2 c.admissible-whole.ensures _ _ c.hand_over.ensures.0 c.hand_over.ensures.1
