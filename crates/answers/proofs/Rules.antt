-- Each way in which an answer is put into the lent bytes. Assumes nothing.
use mathlib.Core.Path.{◌≡◌}
use mathlib.Core.List.{List, ◌++◌}
use Prim.Native.Nat.{ℕ, ◌≤◌, ◌<◌}
use borrow.Author.Tests.{le-leb, lt-leb}
use lib.ListN.{length, drop}
use Rattle.definitions.specs.Bytes.{bytes_of, lent}
use Rattle.definitions.specs.Host.{layout, answer_bytes}

module _ (slice : List ℕ) where
  pub layout_short : (words : List ℕ) → length slice < 28 → slice ≡ answer_bytes slice words
  unfolding answer_bytes
  layout_short words h = rw (lt-leb 28 (length slice) h)

  pub layout_put : (status number place result steps count : ℕ) (after : List ℕ) → 28 ≤ length slice
      → after ≡ bytes_of (layout status number place result steps count) ++ drop 28 slice
      → after ≡ answer_bytes slice (layout status number place result steps count)
  unfolding answer_bytes lent
  layout_put status number place result steps count after h e = rw (le-leb 28 (length slice) h) e
