-- The answer that Faults picks is the least of all faults of its group: it is one of them, and none has a lower place, or on its word a lower number.
-- Assumes nothing.
use Rattle.std.specs.Prelude.{◌≤◌, ◌<◌, ◌≡◌, refl, Bool, true, false, ◌&&◌, ◌||◌, not, ◌⊎◌, List, [], ◌∷◌, ◌++◌, ltb, eqb}
use Rattle.std.proofs.Common.{arith, sym, ◌∙◌, inl, inr, ltb-true, ltb-false, eqb-true}
use Rattle.std.proofs.lemmas.Bool.{eqb-false}
use Rattle.definitions.specs.Choice.{pick}
use Rattle.definitions.specs.declared.Fault.{Fault}
use Rattle.definitions.specs.Faults.{no_fault, before, lower, least}
use Rattle.statements.specs.Statements.{Among, here, there}

-- a stands at least as low as f: there is no fault f, or a is a fault with a lower place, or on the same word with no higher number
pub data AsLow (a f : Fault) : Type 0 where
  nothing : f.number ≡ 0 → AsLow a f
  lower_place : (a.number ≡ 0 → ⊥) → a.place < f.place → AsLow a f
  same_word : (a.number ≡ 0 → ⊥) → a.place ≡ f.place → a.number ≤ f.number → AsLow a f

as_low_itself : (a : Fault) → AsLow a a
as_low_itself a = go (eqb a.number 0) refl
  where
    go : (b : Bool) → eqb a.number 0 ≡ b → AsLow a a
    go true e = nothing (eqb-true _ _ e)
    go false e = same_word (eqb-false _ _ e) refl (omega arith)

as_low_trans : {a f g : Fault} → AsLow a f → AsLow f g → AsLow a g
as_low_trans x (nothing e) = nothing e
as_low_trans (nothing z) (lower_place n p) = absurd (n z)
as_low_trans (lower_place m q) (lower_place n p) = lower_place m (omega arith)
as_low_trans (same_word m q r) (lower_place n p) = lower_place m (omega arith)
as_low_trans (nothing z) (same_word n p s) = absurd (n z)
as_low_trans (lower_place m q) (same_word n p s) = lower_place m (omega arith)
as_low_trans (same_word m q r) (same_word n p s) = same_word m (omega arith) (omega arith)

-- the lower of two faults stands at least as low as either
lower_both : (a b : Fault) → AsLow (lower a b) a × AsLow (lower a b) b
lower_both a b = go (eqb b.number 0) (eqb a.number 0) (ltb b.place a.place) (eqb b.place a.place) (ltb b.number a.number) refl refl refl refl refl
  where
    go : (n m l e k : Bool)
        → eqb b.number 0 ≡ n
        → eqb a.number 0 ≡ m
        → ltb b.place a.place ≡ l
        → eqb b.place a.place ≡ e
        → ltb b.number a.number ≡ k
        → AsLow (pick (not n && (m || (l || e && k))) b a) a × AsLow (pick (not n && (m || (l || e && k))) b a) b
    go true m l e k hn hm hl he hk = (as_low_itself a, nothing (eqb-true _ _ hn))
    go false true l e k hn hm hl he hk = (nothing (eqb-true _ _ hm), as_low_itself b)
    go false false true e k hn hm hl he hk = (lower_place (eqb-false _ _ hn) (ltb-true _ _ hl), as_low_itself b)
    go false false false true true hn hm hl he hk =
        let p : b.number < a.number = ltb-true _ _ hk in
        (same_word (eqb-false _ _ hn) (eqb-true _ _ he) (omega (arith, p)), as_low_itself b)
    go false false false true false hn hm hl he hk =
        (as_low_itself a, same_word (eqb-false _ _ hm) (sym (eqb-true _ _ he)) (ltb-false _ _ hk))
    go false false false false k hn hm hl he hk =
        let p : a.place ≤ b.place = ltb-false _ _ hl in
        let q : b.place ≡ a.place → ⊥ = eqb-false _ _ he in
        (as_low_itself a, lower_place (eqb-false _ _ hm) (omega (arith, p, q)))

least_start : (fs : List Fault) (b : Fault) → AsLow (least b fs) b
unfolding least
least_start [] b = as_low_itself b
least_start (f ∷ fs) b = as_low_trans (least_start fs (lower b f)) (lower_both b f).0

-- no fault of the list goes before the least
pub least_low : (fs : List Fault) (b f : Fault) → Among f fs → AsLow (least b fs) f
unfolding least
least_low [] b f m = elim m [ ]
least_low (g ∷ fs) b f here = as_low_trans (least_start fs (lower b g)) (lower_both b g).1
least_low (g ∷ fs) b f (there m) = least_low fs (lower b g) f m

-- the lower of two faults is one of them
lower_one : (a b : Fault) → (lower a b ≡ a) ⊎ (lower a b ≡ b)
lower_one a b = go (before b a)
  where
    go : (t : Bool) → (pick t b a ≡ a) ⊎ (pick t b a ≡ b)
    go true = inr refl
    go false = inl refl

-- the least is the fault that was begun with, or one of the list
pub least_among : (fs : List Fault) (b : Fault) → (least b fs ≡ b) ⊎ Among (least b fs) fs
unfolding least
least_among [] b = inl refl
least_among (f ∷ fs) b = go (least_among fs (lower b f)) (lower_one b f)
  where
    go : (least (lower b f) fs ≡ lower b f) ⊎ Among (least (lower b f) fs) fs
        → (lower b f ≡ b) ⊎ (lower b f ≡ f)
        → (least (lower b f) fs ≡ b) ⊎ Among (least (lower b f) fs) (f ∷ fs)
    go (inr m) q = inr (there m)
    go (inl e) (inl q) = inl (e ∙ q)
    go (inl e) (inr q) = inr (rw (e, q) here)

-- a fault with a number is found: where the list has one, the least has a number too
pub least_found : (fs : List Fault) (f : Fault) → Among f fs → (f.number ≡ 0 → ⊥) → (least no_fault fs).number ≡ 0 → ⊥
least_found fs f m n z = go (least_low fs no_fault f m)
  where
    go : AsLow (least no_fault fs) f → ⊥
    go (nothing e) = n e
    go (lower_place q p) = q z
    go (same_word q p s) = q z

-- the least over two lists, one after the other
pub least_append : (b : Fault) (fs gs : List Fault) → least b (fs ++ gs) ≡ least (least b fs) gs
unfolding least
least_append b [] gs = refl
least_append b (f ∷ fs) gs = least_append (lower b f) fs gs
