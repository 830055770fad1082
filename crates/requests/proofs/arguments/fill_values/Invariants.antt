-- The first k values stand in the array, and zeros behind them.
use Rattle.requests.proofs.ArgumentRules.{Filling}
use Rattle.requests.proofs.arguments.fill_values.Given as goal

abbrev pub invariant-loop-k : goal.invariant-loop-k
invariant-loop-k l = Filling l.types l.arguments l.values l.k
