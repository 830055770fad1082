-- The array has room for every result.
use Rattle.std.proofs.Common.{◌∙◌, ℕ, arith, replicate}
use Rattle.std.proofs.lemmas.List.{length-replicate}
use Rattle.lent_images.proofs.Rules.{attempt_long}
use Rattle.lent_images.proofs.compile_long.Goals as goal

pub returns : goal.returns
returns c =
    c.compile_sized.ensures
    ∙ attempt_long c.args.image.now c.args.out.now (replicate 16384 0) (λ i. grind arith) (length-replicate {A = ℕ} 16384 0)
