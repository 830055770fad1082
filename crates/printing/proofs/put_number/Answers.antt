-- The digits of the number stand behind the first characters.
use Rattle.std.proofs.Common.{arith}
use Rattle.printing.proofs.DigitRules.{number_is}
use Rattle.printing.proofs.put_number.Goals as goal

pub returns : goal.returns
returns c =
    number_is c.args.n c.args.at c.decimal-k.result c.decimal-k.new.out c.args.text.now (omega (arith, c.ranges.n)) c.decimal-k.ensures.len
    c.decimal-k.ensures.in_bounds.0 c.requires _ c.decimal-k.ensures.digits c.copy.ensures
