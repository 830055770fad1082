-- Writing what is left of the words gives, from where the writing has come to, what all of them give.
use Rattle.std.proofs.Common.{◌≡◌, drop}
use Rattle.writer.specs.Writing.{writes}
use Rattle.writer.proofs.Output.put_all.Given as goal

abbrev pub invariant-loop-each : goal.invariant-loop-each
invariant-loop-each l =
    (writes l.self.place l.self.words.now (drop l.each-index l.words) ≡ writes l.fn.self.place l.fn.self.words.now l.words)
    × (l.self.words.ghost_name ≡ l.fn.self.words.ghost_name)
