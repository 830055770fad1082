-- A store past the end of a list. Assumes nothing.
use mathlib.Core.Path.{◌≡◌, sym}
use mathlib.Core.List.{List}
use Prim.Native.Nat.{ℕ, ◌≤◌}
use lib.ListN.{length, set}
use lib.Seq.{set_out}

pub put_past : (t : List ℕ) (i v : ℕ) → length t ≤ i → t ≡ set t i v
put_past t i v h = sym (set_out t i v h)
