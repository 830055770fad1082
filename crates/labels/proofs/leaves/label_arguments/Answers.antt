-- One argument more.
use Rattle.std.proofs.Common.{rules}
use native.Mathlib.Nat.{sub-zero}
use Rattle.image_words.specs.Rest.{next_argument}
use Rattle.labels.proofs.LeafRules.{arguments_done, arguments_again, arguments_more}
use Rattle.labels.proofs.leaves.label_arguments.Goals as goal

pub loop-k-init : goal.loop-k-init
loop-k-init c = record {
  read = rw (sub-zero c.parameters-k-end.result, c.parameters-k-end.ensures) c.requires.1;
  same = rw (sub-zero c.parameters-k-end.result, c.parameters-k-end.ensures);
}

pub label_expression-argument-requires : goal.label_expression-argument-requires
label_expression-argument-requires c = search (next_argument, rules)

pub loop-k-preserved : goal.loop-k-preserved
loop-k-preserved c = record { read = search (arguments_again, rules); same = search (arguments_more, rules) }

pub returns : goal.returns
returns c = search (arguments_done, rules)
