-- What the loop of `read_arguments` keeps: what is left to read answers what the whole does.
use Rattle.std.proofs.Common.{◌-◌, ◌≡◌}
use Rattle.reader.specs.Answers.{answer}
use Rattle.image_words.specs.Read.{arguments_at}
use Rattle.reader.proofs.expressions.read_arguments.Given as goal

abbrev pub invariant-loop : goal.invariant-loop
invariant-loop l = answer (arguments_at (l.count - l.counter) l.level l.image l.at) ≡ answer (arguments_at l.count l.level l.image l.fn.at)
