-- What the comparison comes to after the entries passed is what it comes to at all.
use Rattle.std.proofs.Common.{◌≡◌, ◌*◌, ◌/◌, ◌≤◌, length}
use Rattle.definitions.specs.Bytes.{words_of}
use Rattle.definitions.specs.Host.{compare_bytes}
use Rattle.comparing.specs.Steps.{rest}
use Rattle.comparing.proofs.compare.Given as goal

abbrev pub invariant-loop-entry : goal.invariant-loop-entry
invariant-loop-entry l = record {
  within : 2 * l.n ≤ length l.probe / 4;
  left : rest (words_of l.trace) (2 * l.entry) (words_of l.probe) l.n ≡ compare_bytes l.trace l.probe;
}
