-- What the description is goes into the lent bytes.
use Rattle.std.proofs.Common.{ℕ, arith, replicate}
use Rattle.std.proofs.lemmas.List.{length-replicate}
use Rattle.lent_images.proofs.Rules.{describe_asks, describe_done}
use Rattle.lent_images.proofs.descriptions.describe_with.Goals as goal

pub hand_over-requires : goal.hand_over-requires
hand_over-requires c =
    describe_asks _ c.args.out.now (replicate 420 0) c.describe_within-answer.new.res _ _ _ (length-replicate {A = ℕ} 420 0) c.room_in-room.ensures
    c.describe_within-answer.ensures c.describe_within-answer.auto.res

pub returns : goal.returns
returns c =
    describe_done _ c.args.out.now (replicate 420 0) c.describe_within-answer.new.res _ _ _ (length-replicate {A = ℕ} 420 0) c.room_in-room.ensures
    c.describe_within-answer.ensures c.args.image.now (λ i. grind arith) c.read_image-n.ensures.2 c.admissible-whole.ensures _ _
    c.hand_over.ensures.0 c.hand_over.ensures.1
