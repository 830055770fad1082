-- Writing words one after the other into a lent output. A place stops at 16385, one past the largest compiled image;
-- a word at or past the output's end changes nothing. Assumes nothing.
use Rattle.std.specs.Prelude.{ℕ, ◌+◌, List, [], ◌∷◌, ◌≡◌, ltb, set}
use Rattle.definitions.specs.Choice.{pick}
use Rattle.writer.specs.declared.Output.{Output as Written}

-- the next place, and what the output holds
abbrev pub Output : Type 0
Output = ℕ × List ℕ

unfoldable pub write : ℕ → List ℕ → ℕ → Output
write o out w = (pick (ltb o 16385) (o + 1) o, pick (ltb o 16385) (set out o w) out)

unfoldable pub writes : ℕ → List ℕ → List ℕ → Output
writes o out [] = (o, out)
writes o out (w ∷ ws) = writes (write o out w).0 (write o out w).1 ws

-- it is the same buffer that is lent
abbrev pub SameBuffer : Written → Written → Type 0
SameBuffer old new = new.words.ghost_name ≡ old.words.ghost_name

-- words were written one after the other, into the same buffer
abbrev pub Wrote : Written → Written → List ℕ → Type 0
Wrote old new ws = ◌≡◌ {A = Output} (new.place, new.words.now) (writes old.place old.words.now ws) × SameBuffer old new
