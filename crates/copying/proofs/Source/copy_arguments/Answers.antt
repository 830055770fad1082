-- What is left after one more value is what was left before it, without its first.
use Rattle.std.proofs.Common.{rules}
use Rattle.copying.proofs.Arguments.{arguments_again, arguments_more}
use Rattle.copying.proofs.Source.copy_arguments.Goals as goal

pub loop-preserved : goal.loop-preserved
loop-preserved c = record {
  onward = search rules;
  inside = search rules;
  reads = search (arguments_again, rules);
  same_buffer = search rules;
  left = search (arguments_more, rules);
}
