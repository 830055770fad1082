-- What an obstacle, or that there is none, tells of what was found of a procedure. Assumes nothing.
use Rattle.std.specs.Prelude.{ℕ, ◌<◌, Bool, true, false, ◌≡◌, leb, Option, Some, None, IfSome}
use Rattle.std.proofs.Common.{arith, refl}
use borrow.Author.Tests.{leb-false}
use Rattle.step_bounds.specs.Counting.{obstacle_of}
use Rattle.step_bounds.specs.declared.Obstacle.{Obstacle}
use Rattle.step_bounds.specs.declared.Obstacle.TheVariants.{CalleeFor}

pub callee_few : (first lowest : Option ℕ) (above : Bool) (g : ℕ) → Some (CalleeFor g) ≡ obstacle_of first lowest above
    → IfSome lowest (λ h. h < 32) → g < 32
unfolding obstacle_of
callee_few (Some p) lowest above g e h = cc
callee_few None (Some f) above g e h = let same : g ≡ f = cc in omega arith
callee_few None None true g e h = cc
callee_few None None false g e h = cc

pub cost_fits : (first lowest : Option ℕ) (cost : ℕ) → ◌≡◌ {A = Option Obstacle} None (obstacle_of first lowest (leb 4294967296 cost)) → cost < 4294967296
unfolding obstacle_of
cost_fits (Some p) lowest cost e = cc
cost_fits None (Some g) cost e = cc
cost_fits None None cost e = go (leb 4294967296 cost) refl e
  where
    go : (b : Bool) → leb 4294967296 cost ≡ b → ◌≡◌ {A = Option Obstacle} None (obstacle_of None None b) → cost < 4294967296
    go true q e = cc
    go false q e = leb-false 4294967296 cost q
