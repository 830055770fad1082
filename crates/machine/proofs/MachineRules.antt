-- Each way in which a request on an accepted image ends. Assumes nothing.
use mathlib.Core.Path.{◌≡◌, refl, sym, ap, ◌∙◌}
use mathlib.Core.List.{List, ◌++◌}
use Prim.Native.Nat.{ℕ, ◌+◌, ◌*◌, ◌≤◌, ◌<◌}
use native.Mathlib.Omega.{arith}
use lib.ListN.{get_or, set, drop, replicate}
use lib.Seq.{take-set-lt, get_or-take}
use Rattle.definitions.specs.Bytes.{bytes_of}
use Rattle.definitions.specs.Image.{base_of}
use Rattle.definitions.specs.declared.Answer.{Answer}
use Rattle.definitions.specs.declared.Answer.TheVariants.{Done, Stopped, Refused}
use Rattle.tables.specs.Table.{arrays_in}
use Rattle.std.proofs.Common.{Option, Some, None}
use Rattle.std.proofs.lemmas.List.{take-replicate}
use Rattle.requests.specs.Cells.{slot_in, Fits}
use Rattle.requests.specs.OwnCells.{clear_on, poke_on, peek_on}
use Rattle.requests.proofs.CellRules.{slot_at, slot_nothing, cell_within}
use Rattle.machine.specs.declared.machines.Machine.{Machine}
use Rattle.machine.specs.declared.machines.Turn.{Turn}
use Rattle.machine.specs.Turns.{held, Kept, Turned, given_back}

module _ {N : ℕ} (m : Machine N) where
  -- a machine of as many cells, with other words in its array
  abbrev filled_with : List ℕ → m.count ≤ N → Machine N
  filled_with cells w = record { cells = cells; count = m.count; within = w }

  pub cleared : (w : m.count ≤ N) → Turned m (record { machine = filled_with (replicate N 0) w; answer = Done 0 0 0 }) (clear_on m.count)
  unfolding clear_on Kept
  cleared w = record { gives = rw (take-replicate {X = ℕ} m.count N 0 m.within); kept = refl }

  module _ (table : List ℕ) (a i : ℕ) (fits : Fits table m.count) (s : Option ℕ) (e : s ≡ slot_in table a i) where
    pub no_poke : (v : ℕ) (r : Turn N) → s ≡ None → r.machine ≡ m → r.answer ≡ Refused 17 0 → Turned m r (poke_on (arrays_in table) (held m) a i v)
    unfolding poke_on Kept
    no_poke v r n k q = record { gives = rw (k, q, slot_nothing table a i m.count fits s e n); kept = rw q k }

    pub no_peek : (r : Turn N) → s ≡ None → r.machine ≡ m → r.answer ≡ Refused 17 0 → Turned m r (peek_on (arrays_in table) (held m) a i)
    unfolding peek_on Kept
    no_peek r n k q = record { gives = rw (k, q, slot_nothing table a i m.count fits s e n); kept = rw q k }

    module _ (n : ℕ) (f : s ≡ Some n) where
      slot_below : n < m.count
      slot_below = let (t, q) = slot_at table a i m.count fits s e n f in omega (arith, cell_within (arrays_in table) a i t, fits.all)

      pub slot_within : n < N
      slot_within = omega (arith, slot_below, m.within)

      pub slot_small : n < 1024
      slot_small = omega (arith, slot_below, fits.all, fits.most)

      pub poked : (v : ℕ) (w : m.count ≤ N)
          → Turned m (record { machine = filled_with (set m.cells n v) w; answer = Done 0 0 0 }) (poke_on (arrays_in table) (held m) a i v)
      unfolding poke_on Kept
      poked v w =
          let (t, q) = slot_at table a i m.count fits s e n f in
          record { gives = rw (t, take-set-lt m.count m.cells n v slot_below, q); kept = refl }

      pub peeked : (v : ℕ) → v ≡ get_or m.cells n 0 → Turned m (record { machine = m; answer = Done v 0 0 }) (peek_on (arrays_in table) (held m) a i)
      unfolding peek_on Kept
      peeked v r =
          let (t, q) = slot_at table a i m.count fits s e n f in
          let w : v ≡ get_or (held m) (base_of (arrays_in table) a + i) 0 = r ∙ sym (get_or-take m.count m.cells n 0 slot_below) ∙ ap (λ (k : ℕ). get_or (held m) k 0) q in
          record { gives = rw (t, w); kept = refl }

-- ---- the cells that go back, by the answer beside them

module _ {N : ℕ} (m : Machine N) (cells : List ℕ) (a : Answer) where
  pub back_done : (v z n : ℕ) → a ≡ Done v z n → (after : List ℕ) → after ≡ bytes_of (held m) ++ drop (4 * m.count) cells
      → (Done v z n ≡ a) × (after ≡ given_back a m cells)
  back_done v z n e after w = rw e (refl, w)

  pub back_stopped : (k p z n : ℕ) → a ≡ Stopped k p z n → (Stopped k p z n ≡ a) × (cells ≡ given_back a m cells)
  back_stopped k p z n e = rw e (refl, refl)

  pub back_refused : (k p : ℕ) → a ≡ Refused k p → (Refused k p ≡ a) × (cells ≡ given_back a m cells)
  back_refused k p e = rw e (refl, refl)
