-- What each way out of the functions below `evaluate` gives. Assumes nothing.
use mathlib.Core.Path.{◌≡◌, ap, ◌∙◌}
use mathlib.Core.List.{List}
use Prim.Native.Nat.{ℕ, ◌+◌, ◌≤◌, ◌<◌}
use native.Mathlib.Omega.{arith}
use borrow.Author.Tests.{lt-ltb, le-ltb, ne_eqb}
use lib.ListN.{get_or, length-take}
use Rattle.definitions.specs.Image.{array_length}
use Rattle.definitions.specs.Operators.{apply_binary}
use Rattle.definitions.specs.Running.{Evaluated, value, stop, emit, divided, shifted, operated}
use Rattle.laws.specs.OperatorTests.{shift_no_division, shift_between, division_between, neither_outside}
use Rattle.tables.specs.Table.{array_count_in, arrays_in, base_in, Known}
use Rattle.tracing.specs.Log.{Log, byte_trace}
use Rattle.evaluator.specs.Cells.{Bases, numbered, cell_read}
use Rattle.evaluator.specs.CellLaws.{array_there, known_bases}

module _ (table : List ℕ) (t t1 : Log) (a l v : ℕ) where
  pub index_full : (k q : ℕ) → stop k q t1 ≡ emit byte_trace 4 l v t → stop k q t1 ≡ numbered table a l v t
  unfolding numbered
  index_full k q d = rw (← d)

  module _ (i : ℕ) (d : value i t1 ≡ emit byte_trace 4 l v t) (w k : ℕ) (hw : w ≡ get_or (arrays_in table) a 0) (hk : k ≡ array_length w) where
    length_is : k ≡ array_length (get_or (arrays_in table) a 0)
    length_is = hk ∙ ap array_length hw

    pub index_in : (b : ℕ) → b ≡ base_in table a → i < k → value (b + i) t1 ≡ numbered table a l v t
    unfolding numbered
    index_in b hb h = rw (← d, ← length_is, lt-ltb i k h, hb)

    pub index_out : k ≤ i → ◌≡◌ {A = Evaluated Log ℕ} (stop 23 l t1) (numbered table a l v t)
    unfolding numbered
    index_out h = rw (← d, ← length_is, le-ltb i k h)

  -- what stands in the cell that an index names
  pub cell_stop : (cells : List ℕ) (k q : ℕ) → stop k q t1 ≡ numbered table a l v t → stop k q t1 ≡ cell_read table cells a l v t
  unfolding cell_read
  cell_stop cells k q d = rw (← d)

  pub cell_got : (cells : List ℕ) (i k x : ℕ) → value i t1 ≡ numbered table a l v t → x ≡ get_or cells k 0 → k ≡ i → value x t1 ≡ cell_read table cells a l v t
  unfolding cell_read
  cell_got cells i k x d e h = rw (← d, e, h)

-- the cell's number fits a word
pub index_fits : (table : List ℕ) (a i k w b : ℕ) → Bases table → w ≡ get_or (arrays_in table) a 0 → k ≡ array_length w → i < k
    → b ≡ base_in table a → k < 65536 → b + i ≤ 66559
unfolding Bases
index_fits table a i k w b bases hw hk q hb z =
    let e : k ≡ array_length (get_or (arrays_in table) a 0) = hk ∙ ap array_length hw in
    let c = length-take (array_count_in table) table in
    let t = array_there (arrays_in table) a i (omega arith) in
    let y = bases a (omega arith) in omega arith

module _ (t t1 : Log) (p o a b : ℕ) where
  pub divide_full : (k q : ℕ) → stop k q t1 ≡ emit byte_trace 5 p a t → stop k q t1 ≡ divided byte_trace p o a b t
  unfolding divided
  divide_full k q d = rw (← d)

  module _ (i : ℕ) (d : value i t1 ≡ emit byte_trace 5 p a t) (t2 : Log) where
    pub divide_full2 : (k q : ℕ) → stop k q t2 ≡ emit byte_trace 6 p b t1 → stop k q t2 ≡ divided byte_trace p o a b t
    unfolding divided
    divide_full2 k q e = rw (← d, ← e)

    module _ (j : ℕ) (e : value j t2 ≡ emit byte_trace 6 p b t1) where
      pub divide_zero : b ≡ 0 → ◌≡◌ {A = Evaluated Log ℕ} (stop 24 p t2) (divided byte_trace p o a b t)
      unfolding divided
      divide_zero h = rw (← d, ← e, h)

      pub divide_done : (x : ℕ) → (b ≡ 0 → ⊥) → x ≡ apply_binary o a b → value x t2 ≡ divided byte_trace p o a b t
      unfolding divided
      divide_done x h f = rw (← d, ← e, ne_eqb b 0 h, f)

  pub shift_full : (k q : ℕ) → stop k q t1 ≡ emit byte_trace 9 p b t → stop k q t1 ≡ shifted byte_trace p o a b t
  unfolding shifted
  shift_full k q d = rw (← d)

  pub shift_done : (i x : ℕ) → value i t1 ≡ emit byte_trace 9 p b t → x ≡ apply_binary o a b → value x t1 ≡ shifted byte_trace p o a b t
  unfolding shifted
  shift_done i x d e = rw (← d, e)

module _ (p o a b : ℕ) (t : Log) where
  pub operate_shift : (y : Evaluated Log ℕ) → 6 ≤ o → o < 9 → y ≡ shifted byte_trace p o a b t → y ≡ operated byte_trace p o a b t
  unfolding operated
  operate_shift y h g e = let s = shift_between o h g in rw (shift_no_division o s, s) e

  pub operate_divide : (y : Evaluated Log ℕ) → 9 ≤ o → o < 11 → y ≡ divided byte_trace p o a b t → y ≡ operated byte_trace p o a b t
  unfolding operated
  operate_divide y h g e = rw (division_between o h g) e

  module _ (x : ℕ) (e : x ≡ apply_binary o a b) where
    unrecorded : (6 ≤ o → 11 ≤ o) → value x t ≡ operated byte_trace p o a b t
    unfolding operated
    unrecorded h = let (f, g) = neither_outside o h in rw (f, g, e)

    pub operate_below : o < 6 → value x t ≡ operated byte_trace p o a b t
    operate_below h = unrecorded (λ g. absurd (omega arith))

    pub operate_above : 11 ≤ o → value x t ≡ operated byte_trace p o a b t
    operate_above h = unrecorded (λ g. h)
