-- What the loop of `write_words` keeps: the first j words are written, and what stands behind them is untouched.
-- Assumes nothing.
use Rattle.std.proofs.Common.{◌≡◌, ◌*◌, ◌++◌, length, take, drop}
use Rattle.definitions.specs.Bytes.{bytes_of}
use Rattle.words.proofs.write_words.Given as goal

abbrev pub invariant-loop-j : goal.invariant-loop-j
invariant-loop-j l = (length l.out ≡ length l.fn.out) × (l.out ≡ bytes_of (take l.j l.ws) ++ drop (4 * l.j) l.fn.out)
