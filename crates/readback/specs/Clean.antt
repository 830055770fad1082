-- Sorts and flows that break no rule.
-- Assumes nothing.
use Rattle.std.specs.Prelude.{ℕ, Bool, true, false, ◌&&◌, ◌||◌, not, [], ◌≡◌, refl, eqb}
use Rattle.std.proofs.Common.{sym, eqb-true, eq-eqb}
use Rattle.definitions.specs.Faults.{fault_if}
use Rattle.definitions.specs.Sorts.{wrong_sort, no_sort}

pub right_sort : (want have p : ℕ) → have ≡ want → wrong_sort want have p ≡ []
right_sort want have p e = rw (e, eq-eqb want want refl) (go (not (eqb want no_sort)))
  where
    go : (b : Bool) → fault_if (b && (b && false)) 7 p ≡ []
    go true = refl
    go false = refl

pub sorts_agree : (want have p : ℕ) → wrong_sort want have p ≡ [] → eqb want no_sort ≡ false → eqb have no_sort ≡ false → have ≡ want
sorts_agree want have p e f g = go (eqb want have) refl (rw (f, g) at e)
  where
    go : (b : Bool) → eqb want have ≡ b → fault_if (not b) 7 p ≡ [] → have ≡ want
    go true h z = sym (eqb-true want have h)
    go false h z = cc

-- what flows into a place in a secret context, the place is secret
pub sink : (s d : Bool) → ((s || true) && d) ≡ false → d ≡ false
sink true d h = h
sink false d h = h

pub source : (s d : Bool) → ((s || false) && d) ≡ false → (s && d) ≡ false
source true d h = h
source false d h = h
