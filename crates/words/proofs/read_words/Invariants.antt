-- What the loop of `read_words` keeps: the first i words are read, and what stands behind the n words is untouched.
-- Assumes nothing.
use Rattle.std.proofs.Common.{◌≡◌, length, take, drop}
use Rattle.definitions.specs.Bytes.{words_of}
use Rattle.words.proofs.read_words.Given as goal

abbrev pub invariant-loop-i : goal.invariant-loop-i
invariant-loop-i l = record {
  long : length l.out ≡ length l.fn.out;
  front : take l.i l.out ≡ take l.i (words_of l.b);
  behind : drop l.n l.out ≡ drop l.n l.fn.out;
}
