-- What the loop of `read_arrays` keeps of the table.
use Rattle.std.proofs.Common.{arith}
use Rattle.reader.proofs.ArrayRules.{arrays_rules, arrays_begin, arrays_step, arrays_kept}
use Rattle.reader.proofs.procedures.read_arrays.Goals as goal

pub loop-k-init : goal.loop-k-init
loop-k-init c = (omega arith, arrays_begin _ _ _ _ c.requires.1, grind (arith, arrays_rules))

pub loop-k-preserved : goal.loop-k-preserved
loop-k-preserved c = (
  grind (arith, arrays_rules),
  arrays_step _ _ _ _ _ _ _ c.requires.0 c.loop-k.invariant.1 c.loop-k-test.true _ c.in_ok-w.ensures.value (grind arith) _ _ c.array_length-cells.ensures.0 c.add_array.ensures,
  grind (arith, arrays_rules),
)

pub returns-clause-left : goal.returns-clause-left
returns-clause-left c = arrays_kept _ _ _ _ _ _ _ c.requires.0 c.loop-k.invariant.1 (omega arith)
