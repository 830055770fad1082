-- Emitting what is left leaves, from where the walk has come to, what emitting all procedures leaves.
use Rattle.std.proofs.Common.{◌≡◌, drop}
use Rattle.definitions.specs.Encoding.{procedures_words}
use Rattle.definitions.specs.Compiling.{compiled_procedures}
use Rattle.laws.specs.ImageIn.{image_in, procedures_in}
use Rattle.writer.specs.Writing.{writes}
use Rattle.compiler.proofs.emit_each.Given as goal

abbrev pub invariant-loop-me : goal.invariant-loop-me
invariant-loop-me l = (
    writes l.out.place l.out.words.now
    (procedures_words (compiled_procedures (procedures_in l.program.image.now) (image_in l.program.image.now).arrays (drop l.me (procedures_in l.program.image.now))))
    ≡ writes l.fn.out.place l.fn.out.words.now
    (procedures_words (compiled_procedures (procedures_in l.program.image.now) (image_in l.program.image.now).arrays (procedures_in l.program.image.now)))
    ) × (l.out.words.ghost_name ≡ l.fn.out.words.ghost_name)
