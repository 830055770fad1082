-- What the loop of `read_types` keeps: what is left to read answers what the whole does.
use Rattle.std.proofs.Common.{◌-◌, ◌≡◌}
use Rattle.definitions.specs.Reading.{read_types}
use Rattle.reader.specs.Answers.{answer}
use Rattle.reader.proofs.procedures.read_types.Given as goal

abbrev pub invariant-loop : goal.invariant-loop
invariant-loop l = answer (read_types (l.count - l.counter) l.image l.at) ≡ answer (read_types l.count l.image l.fn.at)
