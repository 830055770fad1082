-- Outcomes of the emission, and how many statements returns and calls become. Assumes nothing.
use Prim.Native.Nat.{ℕ}
use mathlib.Core.Bool.{Bool, true, false}
use mathlib.Core.List.{List}
use mathlib.Core.Path.{◌≡◌, refl, ap}
use Rattle.definitions.specs.Choice.{pick}
use Rattle.definitions.specs.Image.{Expression}
use Rattle.definitions.specs.Encoding.{statement_count}
use Rattle.definitions.specs.Compiling.{compiled_return, compiled_call}
use Rattle.writer.specs.Writing.{Output}
use Rattle.copying.specs.Copy.{Copied, spot}
use Rattle.emission.specs.Emitted.{Emission, outcome}

pub spot_outcome : (v p : ℕ) (t : List ℕ) (m : ℕ) (z : Output) (n : ℕ) (rc : Bool) → ◌≡◌ {A = Copied} (v, (p, t)) (spot m z)
    → ◌≡◌ {A = Emission} (record { at = v; n = n; rc = rc }, (p, t)) (outcome m n rc z)
spot_outcome v p t m z n rc e = ap (λ (y : Copied). outcome y.0 n rc y.1) e

pub outcome_eq : (m n n2 : ℕ) (rc : Bool) (y z : Output) → n ≡ n2 → y ≡ z → outcome m n rc y ≡ outcome m n2 rc z
outcome_eq m n n2 rc y z a b = rw (a, b)

pub return_count : (c : Bool) (a : Expression) (rv : ℕ) (e : Expression) → pick c 2 1 ≡ statement_count (compiled_return c a rv e)
unfolding compiled_return statement_count
return_count true a rv e = refl
return_count false a rv e = refl

pub call_count : (c g : Bool) (a : Expression) (k f x : ℕ) (es : List Expression) → pick c 2 1 ≡ statement_count (compiled_call c g a k f x es)
unfolding compiled_call statement_count
call_count true g a k f x es = refl
call_count false g a k f x es = refl
