-- What the machine's own operators come to in a pass over a cell, and before the first. Assumes nothing.
use Rattle.std.specs.Prelude.{ℕ, ◌+◌, ◌-◌, ◌≤◌, ◌<◌, Bool, true, false, List, [], ◌∷◌, ◌≡◌, refl, eqb}
use Rattle.std.proofs.Common.{arith, le-ltb, lt-ltb, ne_eqb}
use Rattle.definitions.specs.Choice.{pick}
use Rattle.definitions.specs.Arithmetic.{subtract, equal, less, logical_and, logical_or, logical_not}

-- r before the first pass: 255 where n is 0 or above 16, else 16 - n
abbrev pub before : ℕ → ℕ
before n = pick (eqb (logical_or (equal n 0) (less 16 n)) 0) (subtract 16 n) 255

-- T in the pass over cell i: whether it is one of the last n and does not hold n
abbrev pub differs : ℕ → ℕ → ℕ → ℕ
differs n i c = logical_and (logical_not (less i (subtract 16 n))) (logical_not (equal c n))

-- r after the passes over cells, of which the first is cell i
unfoldable pub passed : ℕ → ℕ → ℕ → List ℕ → ℕ
passed n i r [] = r
passed n i r (c ∷ cs) = passed n (i + 1) (pick (eqb (differs n i c) 0) r 255) cs

-- for n up to 16 nothing wraps around
exact : (n : ℕ) → n ≤ 16 → subtract 16 n ≡ 16 - n
exact n h = omega arith

either : (b : Bool) (x : ℕ) → pick b x x ≡ x
either true x = refl
either false x = refl

-- 255 stays
pub stays : (n i : ℕ) (cs : List ℕ) → passed n i 255 cs ≡ 255
unfolding passed
stays n i [] = refl
stays n i (c ∷ cs) = rw (either (eqb (differs n i c) 0) 255) (stays n (i + 1) cs)

-- a cell before the last n, and one of the last n
pub spared : (n i c : ℕ) → n ≤ 16 → i < 16 - n → differs n i c ≡ 0
spared n i c h l = rw (exact n h, lt-ltb i (16 - n) l)

pub tested : (n i c : ℕ) → n ≤ 16 → 16 - n ≤ i → differs n i c ≡ pick (eqb c n) 0 1
tested n i c h l = rw (exact n h, le-ltb i (16 - n) l) (go (eqb c n))
  where
    go : (b : Bool) → logical_and (logical_not 0) (logical_not (pick b 1 0)) ≡ pick b 0 1
    go true = refl
    go false = refl

-- r to begin with: 255 where n is 0 or above 16, else 16 - n
pub from_zero : (n : ℕ) → n < 1 → before n ≡ 255
from_zero n h = let e : n ≡ 0 = omega arith in rw e

pub above : (n : ℕ) → 16 < n → before n ≡ 255
above n h = rw (ne_eqb n 0 (λ e. omega arith), lt-ltb 16 n h)

pub in_range : (n : ℕ) → 1 ≤ n → n ≤ 16 → before n ≡ 16 - n
in_range n h k = rw (ne_eqb n 0 (λ e. omega arith), le-ltb 16 n k) (exact n k)
