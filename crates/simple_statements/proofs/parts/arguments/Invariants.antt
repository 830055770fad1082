-- The values so far are stored, and what is left is read and fits what was asked for.
use Rattle.std.proofs.Common.{◌≡◌, ◌-◌, true}
use Rattle.laws.specs.Parses.{ok}
use Rattle.laws.specs.ImageIn.{image_in}
use Rattle.image_words.specs.Read.{arguments_at}
use Rattle.tracing.specs.Answers.{SameBytes, logged}
use Rattle.simple_statements.specs.Runs.{values_at}
use Rattle.simple_statements.proofs.parts.arguments.Given as goal

abbrev pub invariant-loop-k : goal.invariant-loop-k
invariant-loop-k l = record {
  same : SameBytes l.fn.trace l.trace;
  readable : ok (arguments_at (l.count - l.k) l.level l.memory.program.image.now l.next) ≡ true;
  left : values_at (image_in l.memory.program.image.now).arrays l.memory.vars.now l.memory.cells.now (logged l.trace) l.values l.k (arguments_at (l.count - l.k) l.level l.memory.program.image.now l.next)
      ≡ values_at (image_in l.memory.program.image.now).arrays l.memory.vars.now l.memory.cells.now (logged l.fn.trace) l.fn.values 0 (arguments_at l.count l.level l.memory.program.image.now l.at);
}
