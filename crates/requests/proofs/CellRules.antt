-- One array more is counted, and how a cell is found. Assumes nothing.
use mathlib.Core.Path.{◌≡◌, refl, sym, ap, ◌∙◌}
use mathlib.Core.Bool.{Bool, true, false, ◌&&◌}
use mathlib.Core.List.{List, [], ◌∷◌}
use Prim.Native.Nat.{ℕ, zero, suc, ◌+◌, ◌≤◌, ◌<◌}
use native.Mathlib.Numerals.{add-one}
use native.Mathlib.Omega.{arith}
use borrow.Author.Tests.{le-ltb, lt-ltb, ltb-true, ltb-false}
use lib.Dec.{ltb}
use lib.ListN.{length, get_or, drop, drop_of_length-le, length-take, get_or-eq_default}
use lib.Seq.{drop-cons}
use Rattle.definitions.specs.Choice.{pick}
use Rattle.definitions.specs.Image.{array_length, cell_count, base_of}
use Rattle.tables.specs.Table.{array_count_in, arrays_in, base_in}
use Rattle.std.proofs.Common.{Option, Some, None}
use Rattle.requests.specs.Cells.{has_cell_in, slot_in, Fits}

false_true : {A : Type 0} → false ≡ true → A
false_true e = let z : ◌≡◌ {A = ℕ} 0 1 = ap (λ (b : Bool). pick b 1 0) e in absurd (omega arith)

module _ (table : List ℕ) where
  pub count_start : 0 + cell_count (drop 0 (arrays_in table)) ≡ cell_count (arrays_in table)
  count_start = omega arith

  past : (k : ℕ) → length (arrays_in table) ≤ k → drop k (arrays_in table) ≡ []
  past k h = drop_of_length-le (arrays_in table) h

  module _ (k total all : ℕ) (e : total + cell_count (drop k (arrays_in table)) ≡ all) where
    pub count_more : (w n m : ℕ) → w ≡ get_or (arrays_in table) k 0 → n ≡ array_length w → m ≡ n → total + m + cell_count (drop (k + 1) (arrays_in table)) ≡ all
    unfolding cell_count
    count_more w n m hw hn hm = go (ltb k (length (arrays_in table))) refl
      where
        size : m ≡ array_length (get_or (arrays_in table) k 0)
        size = hm ∙ hn ∙ ap array_length hw

        go : (b : Bool) → ltb k (length (arrays_in table)) ≡ b → total + m + cell_count (drop (k + 1) (arrays_in table)) ≡ all
        go true q =
            let s : total + (array_length (get_or (arrays_in table) k 0) + cell_count (drop (suc k) (arrays_in table))) ≡ all =
            rw (drop-cons (arrays_in table) k 0 (ltb-true k (length (arrays_in table)) q)) at e in
            let z = size in
            rw add-one (omega arith)
        go false q =
            let l = ltb-false k (length (arrays_in table)) q in
            let none : get_or (arrays_in table) k 0 ≡ 0 = get_or-eq_default (arrays_in table) 0 l in
            let zero : m ≡ 0 = size ∙ ap array_length none in
            let s : total + 0 ≡ all = rw (drop_of_length-le (arrays_in table) l) at e in
            rw (add-one, past (suc k) (omega arith)) (omega arith)

    pub count_done : (n : ℕ) → n ≡ array_count_in table → n ≤ k → total ≡ all
    unfolding cell_count
    count_done n hn h =
        let few = length-take (array_count_in table) table in
        let s : total + 0 ≡ all = rw (past k (omega arith)) at e in omega arith

-- the cells of an array end within those of all
pub base_within : (ws : List ℕ) (a : ℕ) → a < length ws → base_of ws a + array_length (get_or ws a 0) ≤ cell_count ws
unfolding base_of cell_count
base_within [] a h = absurd (omega arith)
base_within (w ∷ ws) zero h = omega arith
base_within (w ∷ ws) (suc a) h = let s = base_within ws a (omega arith) in omega arith

module _ (table : List ℕ) (a i : ℕ) (n b : ℕ) (hn : n ≡ array_count_in table) (hb : b ≡ a) where
  pub no_array : n ≤ b → None ≡ slot_in table a i
  unfolding slot_in
  no_array h = rw (le-ltb a (array_count_in table) (omega arith))

  module _ (h : b < n) (w l : ℕ) (hw : w ≡ get_or (arrays_in table) a 0) (hl : l ≡ array_length w) where
    size : l ≡ array_length (get_or (arrays_in table) a 0)
    size = hl ∙ ap array_length hw

    pub no_cell : l ≤ i → None ≡ slot_in table a i
    unfolding slot_in
    no_cell g = rw (lt-ltb a (array_count_in table) (omega arith), ← size, le-ltb i l g)

    pub cell_found : (base c j : ℕ) → base ≡ base_in table a → c ≡ base → j ≡ i → i < l → Some (c + j) ≡ slot_in table a i
    unfolding slot_in
    cell_found base c j e hc hj g = rw (lt-ltb a (array_count_in table) (omega arith), ← size, lt-ltb i l g, hc, hj, e)

-- the two ways out of finding a cell
module _ (table : List ℕ) (a i count : ℕ) (fits : Fits table count) (s : Option ℕ) (e : s ≡ slot_in table a i) where
  pub slot_at : (n : ℕ) → s ≡ Some n → (has_cell_in (arrays_in table) a i ≡ true) × (n ≡ base_of (arrays_in table) a + i)
  unfolding slot_in
  slot_at n f = go (ltb a (array_count_in table)) (ltb i (array_length (get_or (arrays_in table) a 0))) refl refl (sym f ∙ e)
    where
      go : (b d : Bool) → ltb a (array_count_in table) ≡ b → ltb i (array_length (get_or (arrays_in table) a 0)) ≡ d
          → Some n ≡ pick (b && d) (Some (base_in table a + i)) None → (has_cell_in (arrays_in table) a i ≡ true) × (n ≡ base_of (arrays_in table) a + i)
      go true true p q r =
          let l = ltb-true a (array_count_in table) p in
          let m : n ≡ base_in table a + i = cc in
          (rw (fits.listed, p, q), m ∙ ap (λ (k : ℕ). k + i) (fits.bases a (omega (arith, fits.listed))))
      go true false p q r = (cc, cc)
      go false d p q r = (cc, cc)

  pub slot_nothing : s ≡ None → has_cell_in (arrays_in table) a i ≡ false
  unfolding slot_in
  slot_nothing f = rw fits.listed (go (ltb a (array_count_in table) && ltb i (array_length (get_or (arrays_in table) a 0))) (sym f ∙ e))
    where
      go : (b : Bool) → None ≡ pick b (Some (base_in table a + i)) None → b ≡ false
      go true q = cc
      go false q = refl

module _ (arrays : List ℕ) (a i : ℕ) where
  -- a cell that is there stands among all cells
  pub cell_within : has_cell_in arrays a i ≡ true → base_of arrays a + i < cell_count arrays
  cell_within t = go (ltb a (length arrays)) (ltb i (array_length (get_or arrays a 0))) refl refl t
    where
      go : (b d : Bool) → ltb a (length arrays) ≡ b → ltb i (array_length (get_or arrays a 0)) ≡ d → b && d ≡ true → base_of arrays a + i < cell_count arrays
      go true true p q h = omega (arith, base_within arrays a (ltb-true a (length arrays) p), ltb-true i (array_length (get_or arrays a 0)) q)
      go true false p q h = false_true h
      go false d p q h = false_true h
