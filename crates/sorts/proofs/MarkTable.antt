-- Marks by their numbers, where one is put: within the table, and past its end. Assumes nothing.
use Rattle.std.specs.Prelude.{ℕ, ◌≤◌, List, map, set, length, ◌≡◌}
use Rattle.std.proofs.Common.{sym}
use Rattle.std.proofs.lemmas.List.{map-set, set_past, length-map}
use Rattle.sorts.specs.declared.mark_table.Mark.{Mark}
use Rattle.sorts.specs.Numbers.{mark_number}

module _ (marks : List Mark) (i : ℕ) (m : Mark) where
  pub put_within : map mark_number (set marks i m) ≡ set (map mark_number marks) i (mark_number m)
  put_within = map-set mark_number marks i m

  pub put_past : (now : List ℕ) (n : ℕ) → map mark_number marks ≡ now → length marks ≡ n → n ≤ i → now ≡ set now i (mark_number m)
  put_past now n v e h = sym (set_past now i (mark_number m) (rw (← v, length-map, e) h))
