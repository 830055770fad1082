-- The first j lines stand in the text; what stands behind them stays.
use Rattle.printing.proofs.LineRules.{Lines}
use Rattle.printing.proofs.put_listing.Given as goal

abbrev pub invariant-loop-j : goal.invariant-loop-j
invariant-loop-j l = Lines l.initial.text l.bytes l.text l.j
