-- What each return of the functions over one operand's words gives. Assumes nothing.
use Prim.Native.Nat.{ℕ, ◌+◌, ◌<◌}
use mathlib.Core.Bool.{Bool, true, false, ◌&&◌, not, false≢true}
use mathlib.Core.List.{List}
use mathlib.Core.Path.{◌≡◌, refl, sym}
use borrow.Author.Tests.{ltb-true, ltb-false}
use lib.Dec.{eqb, ltb, leb}
use lib.ListN.{length, get_or, get_or-eq_default}
use Rattle.definitions.specs.declared.Fault.{Fault}
use Rattle.definitions.specs.declared.ConstantLoop.{ConstantLoop}
use Rattle.definitions.specs.Image.{kind_of, payload_of, array_length}
use Rattle.definitions.specs.Faults.{least, fault_if}
use Rattle.definitions.specs.Labels.{unbounded}
use Rattle.labels.specs.Operand.{constant_at, value_at, addition_at, bounded_at}
use Rattle.labels.specs.Cursors.{ending}
use Rattle.labels.specs.Walk.{index_noted, operator_noted}
use Rattle.labels.specs.declared.Cursor.{Cursor}
use denote.Enum.Bare.{sameb}
use Rattle.operators.specs.contracts.PublicOperands.{the_type}
use Rattle.operators.specs.Numbers.{publics_number}
use Rattle.operators.specs.declared.PublicOperands.{PublicOperands}
use Rattle.operators.specs.declared.PublicOperands.TheVariants.{Neither, Right, Both}

module _ (image : List ℕ) (at : ℕ) where
  -- a constant stands at a word of the image
  pub constant_within : constant_at image at ≡ true → at < length image
  unfolding constant_at
  constant_within t = go (ltb at (length image)) refl
    where
      go : (s : Bool) → ltb at (length image) ≡ s → at < length image
      go true e = ltb-true at (length image) e
      go false e = absurd (false≢true (rw (get_or-eq_default image 0 (ltb-false at (length image) e)) at t))

  pub constant_there : (k : eqb (kind_of (get_or image at 0)) 7 ≡ true) → true ≡ constant_at image at
  unfolding constant_at
  constant_there k = rw k

  pub constant_raw : eqb (kind_of (get_or image at 0)) 7 ≡ false → eqb (kind_of (get_or image at 0)) 8 ≡ true → true ≡ constant_at image at
  unfolding constant_at
  constant_raw n k = rw (n, k)

  pub constant_none : eqb (kind_of (get_or image at 0)) 7 ≡ false → eqb (kind_of (get_or image at 0)) 8 ≡ false → false ≡ constant_at image at
  unfolding constant_at
  constant_none n m = rw (n, m)

  pub value_there : (p : ℕ) → eqb (kind_of (get_or image at 0)) 7 ≡ true → p ≡ payload_of (get_or image at 0) → p ≡ value_at image at
  unfolding value_at
  value_there p k e = rw (k, e)

  pub value_raw : (v : ℕ) → eqb (kind_of (get_or image at 0)) 7 ≡ false → eqb (kind_of (get_or image at 0)) 8 ≡ true → v ≡ get_or image (at + 1) 0
      → v ≡ value_at image at
  unfolding value_at
  value_raw v n k e = rw (n, k, e)

  pub value_none : eqb (kind_of (get_or image at 0)) 7 ≡ false → eqb (kind_of (get_or image at 0)) 8 ≡ false → 0 ≡ value_at image at
  unfolding value_at
  value_none n m = rw (n, m)

  pub raw_within : eqb (kind_of (get_or image at 0)) 7 ≡ false → eqb (kind_of (get_or image at 0)) 8 ≡ true → at < length image
  raw_within n k = constant_within (sym (constant_raw n k))

pub ruleset constants = (constant_there, constant_raw, constant_none, value_there, value_raw, value_none, raw_within)

module _ (image : List ℕ) (at : ℕ) (bounds : List ConstantLoop) (size : ℕ) where
  pub bounded_constant : (v : ℕ) → true ≡ constant_at image at → v ≡ value_at image at → ltb v size ≡ bounded_at image bounds size at
  unfolding bounded_at
  bounded_constant v t e = rw (← t, e)

  module _ (t : false ≡ constant_at image at) where
    pub bounded_variable : (p : ℕ) (b : ConstantLoop) → eqb (kind_of (get_or image at 0)) 10 ≡ true → p ≡ payload_of (get_or image at 0)
        → b ≡ get_or bounds p unbounded → leb b.upper size ≡ bounded_at image bounds size at
    unfolding bounded_at
    bounded_variable p b n hp e = rw (← t, n, e, hp)

    pub bounded_binary : (s : Bool) → eqb (kind_of (get_or image at 0)) 10 ≡ false → eqb (kind_of (get_or image at 0)) 13 ≡ true
        → s ≡ addition_at image bounds size at → s ≡ bounded_at image bounds size at
    unfolding bounded_at
    bounded_binary s n m e = rw (← t, n, m, e)

    pub bounded_other : eqb (kind_of (get_or image at 0)) 10 ≡ false → eqb (kind_of (get_or image at 0)) 13 ≡ false
        → false ≡ bounded_at image bounds size at
    unfolding bounded_at
    bounded_other n m = rw (← t, n, m)

pub ruleset bounded = (bounded_constant, bounded_variable, bounded_binary, bounded_other)

pub index_noted_lem : (image arrays : List ℕ) (bounds : List ConstantLoop) (context : Bool) (a at : ℕ) (secret : Bool) (end : ℕ) (best : Fault) (found r : Cursor) (w size : ℕ) (bounded : Bool)
    → found ≡ ending end (least best (fault_if secret 10 at)) → w ≡ get_or arrays a 0 → size ≡ array_length w → bounded ≡ bounded_at image bounds size at
    → r ≡ ending found.at (least found.best (fault_if (context && not bounded) 11 at)) → r ≡ ending end (index_noted image arrays bounds context a at secret best)
unfolding index_noted
index_noted_lem image arrays bounds context a at secret end best found r w size bounded hf hw hs hb hr = rw (hr, hf, hb, hs, hw)

-- which operands have to be public
same_both : (p : PublicOperands) → sameb the_type p Both ≡ eqb (publics_number p) 2
same_both Neither = refl
same_both Right = refl
same_both Both = refl

same_some : (p : PublicOperands) → not (sameb the_type p Neither) ≡ leb 1 (publics_number p)
same_some Neither = refl
same_some Right = refl
same_some Both = refl

pub operator_noted_lem : (image : List ℕ) (publics : PublicOperands) (context : Bool) (left : ℕ) (leftSecret : Bool) (right : ℕ) (rightSecret : Bool)
    (end : ℕ) (best : Fault) (first second r : Cursor) (divisor : ℕ) (both some : Bool)
    → divisor ≡ value_at image right → both ≡ sameb the_type publics Both → some ≡ not (sameb the_type publics Neither)
    → first ≡ ending end (least best (fault_if (both && leftSecret) 10 left))
    → second ≡ ending first.at (least first.best (fault_if (some && rightSecret) 10 right))
    → r ≡ ending second.at (least second.best (fault_if (context && (both && eqb divisor 0)) 11 right))
    → r ≡ ending end (operator_noted image (publics_number publics) context left leftSecret right rightSecret best)
unfolding operator_noted
operator_noted_lem image publics context left leftSecret right rightSecret end best first second r divisor both some hd hb hs h1 h2 h3 =
    rw (h3, h2, h1, hd, hb, hs, same_both publics, same_some publics)
