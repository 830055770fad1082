-- A longer image is cut to its first bytes, which tell its answer. With the short array the result is that with a long one, where the output has
-- no more room or the answer is not 16; after the answer 16 the output is as it was.
use Rattle.std.proofs.Common.{◌∙◌, ap, ℕ, List, arith, replicate}
use Rattle.std.proofs.lemmas.List.{length-replicate}
use Rattle.definitions.specs.Host.{compile_bytes}
use Rattle.requests.specs.FirstBytes.{first_length, first_shorter, first_compiled}
use Rattle.lent_images.proofs.Rules.{attempt_equal, attempt_refused, not_16, written_not, other_not}
use Rattle.lent_images.proofs.+compile_bytes.Goals as goal

pub slice_bounds-compile_bytes-end : goal.slice_bounds-compile_bytes-end
slice_bounds-compile_bytes-end t c = first_length c.args.image.now c.if-image-gt-ENOUGH.true

pub compile_bytes-requires : goal.compile_bytes-requires
compile_bytes-requires t c = (omega (arith, first_shorter c.args.image.now c.if-image-gt-ENOUGH.true, c.decreases), tt)

pub returns-then-image-gt-ENOUGH : goal.returns-then-image-gt-ENOUGH
returns-then-image-gt-ENOUGH t c = c.compile_bytes.ensures ∙ first_compiled _ c.if-image-gt-ENOUGH.true _

pub returns-then-out-le-SHORT_RESULT : goal.returns-then-out-le-SHORT_RESULT
returns-then-out-le-SHORT_RESULT t c =
    c.compile_sized.ensures
    ∙ attempt_equal c.args.image.now c.args.out.now (replicate 1024 0) (λ i. grind arith)
    (omega (arith, c.if-out-le-SHORT_RESULT.true, length-replicate {A = ℕ} 1024 0))

pub returns-then-number : goal.returns-then-number
returns-then-number t c =
    c.compile_long-then-number.ensures
    ∙ ap (λ (x : List ℕ). compile_bytes c.args.image.now x)
    (attempt_refused c.args.image.now c.args.out.now (replicate 1024 0) (λ i. grind arith) _ _ c.compile_sized-2.ensures _ _
    c.in-Refused.is)

pub returns-in-Written : goal.returns-in-Written
returns-in-Written t c =
    not_16 c.args.image.now c.args.out.now (replicate 1024 0) (λ i. grind arith) _ _ c.in-Written.ensures (written_not _)

pub returns-else-number : goal.returns-else-number
returns-else-number t c =
    not_16 c.args.image.now c.args.out.now (replicate 1024 0) (λ i. grind arith) _ _ c.in-Refused.ensures
    (other_not _ _ (rw c.number.ensures at c.if-number.false))
