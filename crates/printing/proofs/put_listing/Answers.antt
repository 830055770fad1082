-- One line more is written.
use Rattle.std.proofs.Common.{refl}
use Rattle.printing.specs.Text.{listing}
use Rattle.printing.proofs.LineRules.{line_more}
use Rattle.printing.proofs.put_listing.Goals as goal

pub loop-j-init : goal.loop-j-init
unfolding listing
loop-j-init c = (refl, refl, refl)

pub loop-j-preserved : goal.loop-j-preserved
loop-j-preserved c =
    line_more c.args.text.now c.args.bytes.now c.args.n c.requires.1 c.requires.2 c.loop-j.text c.copy.new.text c.loop-j.j c.word.result c.loop-j-test.true
    c.word.ensures (rw c.line_of-line.ensures at c.copy.ensures) c.loop-j.invariant
