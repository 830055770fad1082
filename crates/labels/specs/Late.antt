-- The least of some faults does not depend on when a fault is met: one may be noted after the faults that a definition lists behind it.
-- Assumes nothing.
use Rattle.std.specs.Prelude.{ℕ, ◌≤◌, ◌<◌, ◌≡◌, refl, Bool, true, false, ◌&&◌, ◌||◌, List, [], ◌∷◌, ltb, eqb}
use Rattle.std.proofs.Common.{arith, sym, ap, ◌∙◌, ltb-true, ltb-false, eqb-true, ne_eqb}
use Rattle.std.proofs.lemmas.Bool.{eqb-false}
use Rattle.definitions.specs.Choice.{pick}
use Rattle.definitions.specs.declared.Fault.{Fault}
use Rattle.definitions.specs.Faults.{fault, lower, least, fault_if}

-- whether the second goes before the first, where both are faults
abbrev under : Fault → Fault → Bool
under a b = ltb b.place a.place || eqb b.place a.place && ltb b.number a.number

-- what that test says of the two
data Place (a b : Fault) : Bool → Type 0 where
  lower_place : b.place < a.place → Place a b true
  lower_number : b.place ≡ a.place → b.number < a.number → Place a b true
  higher_place : a.place < b.place → Place a b false
  no_lower_number : b.place ≡ a.place → a.number ≤ b.number → Place a b false

place_of_two : (a b : Fault) → Place a b (under a b)
place_of_two a b = go (ltb b.place a.place) (eqb b.place a.place) (ltb b.number a.number) refl refl refl
  where
    go : (l e k : Bool) → ltb b.place a.place ≡ l → eqb b.place a.place ≡ e → ltb b.number a.number ≡ k
        → Place a b (l || e && k)
    go true e k hl he hk = lower_place (ltb-true _ _ hl)
    go false true true hl he hk = lower_number (eqb-true _ _ he) (ltb-true _ _ hk)
    go false true false hl he hk = no_lower_number (eqb-true _ _ he) (ltb-false _ _ hk)
    go false false k hl he hk =
        let p : a.place ≤ b.place = ltb-false _ _ hl in
        let q : b.place ≡ a.place → ⊥ = eqb-false _ _ he in
        higher_place (omega (arith, p, q))

fault_same : (a b : Fault) → a.number ≡ b.number → a.place ≡ b.place → a ≡ b
fault_same a b n p = λ i. record { number = n i; place = p i }

-- of two faults the lower, whichever comes first
swap_two : (f g : Fault) → (s t : Bool) → Place g f s → Place f g t → pick s f g ≡ pick t g f
swap_two f g true false x y = refl
swap_two f g false true x y = refl
swap_two f g true true (lower_place p) (lower_place q) = absurd (omega arith)
swap_two f g true true (lower_place p) (lower_number q r) = absurd (omega arith)
swap_two f g true true (lower_number p s) (lower_place q) = absurd (omega arith)
swap_two f g true true (lower_number p s) (lower_number q r) = absurd (omega arith)
swap_two f g false false (higher_place p) (higher_place q) = absurd (omega arith)
swap_two f g false false (higher_place p) (no_lower_number q r) = absurd (omega arith)
swap_two f g false false (no_lower_number p s) (higher_place q) = absurd (omega arith)
swap_two f g false false (no_lower_number p s) (no_lower_number q r) = fault_same g f (omega arith) q

-- a fault below one that the third is not below is below the third
stays : (b f g : Fault) (s : Bool) → Place b g true → Place b f false → Place g f s → s ≡ false
stays b f g false x y z = refl
stays b f g true (lower_place x) (higher_place y) (lower_place z) = absurd (omega arith)
stays b f g true (lower_place x) (higher_place y) (lower_number z w) = absurd (omega arith)
stays b f g true (lower_place x) (no_lower_number y v) (lower_place z) = absurd (omega arith)
stays b f g true (lower_place x) (no_lower_number y v) (lower_number z w) = absurd (omega arith)
stays b f g true (lower_number x u) (higher_place y) (lower_place z) = absurd (omega arith)
stays b f g true (lower_number x u) (higher_place y) (lower_number z w) = absurd (omega arith)
stays b f g true (lower_number x u) (no_lower_number y v) (lower_place z) = absurd (omega arith)
stays b f g true (lower_number x u) (no_lower_number y v) (lower_number z w) = absurd (omega arith)

-- three faults: the order of the second and the third does not count
swap_three : (b f g : Fault) (bg bf gf fg : Bool) → Place b g bg → Place b f bf → Place g f gf → Place f g fg
    → pick bg (pick gf f g) (pick bf f b) ≡ pick bf (pick fg g f) (pick bg g b)
swap_three b f g true true gf fg x y z w = swap_two f g gf fg z w
swap_three b f g false false gf fg x y z w = refl
swap_three b f g true false gf fg x y z w = rw (stays b f g gf x y z)
swap_three b f g false true gf fg x y z w = rw (stays b g f fg y x w)

-- a number is there
abbrev Some : Fault → Type 0
Some a = eqb a.number 0 ≡ false

none_lower : (a c : Fault) → eqb a.number 0 ≡ true → Some c → lower a c ≡ c
none_lower a c ha hc = rw (hc, ha)

lower_none : (a c : Fault) → eqb c.number 0 ≡ true → lower a c ≡ a
lower_none a c hc = rw hc

lower_two : (a c : Fault) → Some a → Some c → lower a c ≡ pick (under a c) c a
lower_two a c ha hc = rw (hc, ha)

lower_chosen : (b f g : Fault) (t : Bool) → Some b → Some f → Some g → lower (pick t g b) f ≡ pick t (pick (under g f) f g) (pick (under b f) f b)
lower_chosen b f g true hb hf hg = lower_two g f hg hf
lower_chosen b f g false hb hf hg = lower_two b f hb hf

lower_three : (b f g : Fault) → Some b → Some f → Some g
    → lower (lower b g) f ≡ pick (under b g) (pick (under g f) f g) (pick (under b f) f b)
lower_three b f g hb hf hg = ap (λ x. lower x f) (lower_two b g hb hg) ∙ lower_chosen b f g (under b g) hb hf hg

swap_faults : (b f g : Fault) → Some f → Some g → lower (lower b g) f ≡ lower (lower b f) g
swap_faults b f g hf hg = by (eqb b.number 0) refl
  where
    by : (z : Bool) → eqb b.number 0 ≡ z → lower (lower b g) f ≡ lower (lower b f) g
    by true hb =
        ap (λ x. lower x f) (none_lower b g hb hg) ∙ lower_two g f hg hf
        ∙ swap_two f g (under g f) (under f g) (place_of_two g f) (place_of_two f g)
        ∙ sym (lower_two f g hf hg) ∙ sym (ap (λ x. lower x g) (none_lower b f hb hf))
    by false hb =
        lower_three b f g hb hf hg
        ∙ swap_three b f g (under b g) (under b f) (under g f) (under f g)
        (place_of_two b g) (place_of_two b f) (place_of_two g f) (place_of_two f g)
        ∙ sym (lower_three b g f hb hg hf)

swap : (b f g : Fault) → Some f → lower (lower b g) f ≡ lower (lower b f) g
swap b f g hf = by (eqb g.number 0) refl
  where
    by : (z : Bool) → eqb g.number 0 ≡ z → lower (lower b g) f ≡ lower (lower b f) g
    by true hg = ap (λ x. lower x f) (lower_none b g hg) ∙ sym (lower_none (lower b f) g hg)
    by false hg = swap_faults b f g hf hg

late_fault : (b f : Fault) (fs : List Fault) → Some f → lower (least b fs) f ≡ least (lower b f) fs
unfolding least
late_fault b f [] h = refl
late_fault b f (g ∷ fs) h = late_fault (lower b g) f fs h ∙ ap (λ x. least x fs) (swap b f g h)

-- a rule's fault, noted after the faults that are listed behind it
pub least_late : (n : ℕ) → 1 ≤ n → (b : Fault) (c : Bool) (p : ℕ) (fs : List Fault)
    → least (least b fs) (fault_if c n p) ≡ least (least b (fault_if c n p)) fs
unfolding least
least_late n h b true p fs = late_fault b (fault n p) fs (ne_eqb n 0 (λ z. omega (arith, h, z)))
least_late n h b false p fs = refl
