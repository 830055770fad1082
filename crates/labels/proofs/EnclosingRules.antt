-- What each return of the functions over the enclosing fors gives. Assumes nothing.
use Prim.Native.Nat.{ℕ, ◌≤◌, ◌<◌}
use native.Mathlib.Omega.{arith}
use mathlib.Core.List.{List}
use mathlib.Core.Path.{◌≡◌, sym}
use lib.ListN.{length, get_or, set}
use Rattle.definitions.specs.declared.ConstantLoop.{ConstantLoop}
use Rattle.definitions.specs.Labels.{unbounded}
use Rattle.labels.specs.Enclosing.{bounds_in, bounds_there, bounds_past, bounds_put, bounds_kept}

module _ (ls : List ConstantLoop) (x i : ℕ) (e : i ≡ x) where
  pub loop_there : (d : ConstantLoop) → i < length ls → get_or ls i d ≡ get_or (bounds_in ls) x unbounded
  loop_there d h = rw e (sym (bounds_there ls x d (omega arith)))

  pub loop_past : length ls ≤ i → unbounded ≡ get_or (bounds_in ls) x unbounded
  loop_past h = sym (bounds_past ls x (omega arith))

  pub loop_put : (l : ConstantLoop) → bounds_in (set ls i l) ≡ set (bounds_in ls) x l
  loop_put l = rw e (bounds_put ls x l)

  pub loop_kept : (b : ConstantLoop) → length ls ≤ i → bounds_in ls ≡ set (bounds_in ls) x b
  loop_kept b h = bounds_kept ls x b (omega arith)
