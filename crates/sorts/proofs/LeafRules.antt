-- Rules for the functions that look at one word: one for each way in which they return. Assumes nothing.
use Prim.Native.Nat.{ℕ, ◌≤◌, ◌<◌}
use mathlib.Core.Bool.{Bool, not, ◌||◌}
use mathlib.Core.List.{List}
use mathlib.Core.Path.{◌≡◌}
use lib.Dec.{leb, eqb, ltb}
use lib.ListN.{length, get_or}
use borrow.Author.Tests.{lt-ltb, le-ltb}
use Rattle.definitions.specs.declared.Fault.{Fault}
use Rattle.definitions.specs.Image.{type_secret, type_sort}
use Rattle.definitions.specs.Faults.{least, fault_if}
use Rattle.definitions.specs.Sorts.{sort_of, loop_fault}
use Rattle.sorts.specs.Walk.{target_noted}

pub sort_known : (types : List ℕ) (x i s : ℕ) → i ≡ x → i < length types → s ≡ type_sort (get_or types i 0) → s ≡ sort_of types x
sort_known types x i s e h g = rw (← e, lt-ltb i (length types) h, g)

pub sort_unknown : (types : List ℕ) (x i : ℕ) → i ≡ x → length types ≤ i → 2 ≡ sort_of types x
sort_unknown types x i e h = rw (← e, le-ltb i (length types) h)

-- a variable is read, written, or named by a for: two faults are noted, one after the other
module _ (types marks : List ℕ) (x at : ℕ) (best m r : Fault) (i k : ℕ) (h : m ≡ least best (fault_if (leb (length types) x) 6 at))
    (e : i ≡ x) (g : k ≡ get_or marks i 0) where
  pub write_notes : r ≡ least m (fault_if (not (eqb k 0)) 8 at) → r ≡ target_noted types marks x at best
  write_notes d = rw (← h, ← e, ← g, d)

  pub loop_notes : (parameters w s : ℕ) (secret : Bool) → w ≡ get_or types i 0 → secret ≡ type_secret w → s ≡ type_sort w
      → r ≡ least m (fault_if (ltb x parameters || (secret || (eqb s 1 || eqb k 2))) 8 at)
      → r ≡ least (least best (fault_if (leb (length types) x) 6 at)) (loop_fault types parameters marks x at)
  loop_notes parameters w s secret v a b d = rw (← h, d, a, b, v, g, e)
