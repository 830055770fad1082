-- Rules for the compiler's answer on any image. Assumes nothing.
use Prim.Native.Nat.{ℕ}
use native.Mathlib.Omega.{arith}
use mathlib.Core.Path.{◌≡◌, sym, ap, ◌∙◌}
use mathlib.Core.Bool.{Bool, true}
use mathlib.Core.List.{List}
use lib.Dec.{eqb}
use borrow.Author.Tests.{eq-eqb, ne_eqb}
use Rattle.definitions.specs.Choice.{pick}
use Rattle.definitions.specs.declared.Checked.{Checked}
use Rattle.definitions.specs.declared.Checked.TheVariants.{Refused as NotAccepted}
use Rattle.definitions.specs.declared.Compiled.{Compiled}
use Rattle.definitions.specs.declared.Compiled.TheVariants.{Refused}
use Rattle.definitions.specs.Image.{Image}
use Rattle.definitions.specs.Reading.{Parse, got, refused}
use Rattle.definitions.specs.Checking.{fault_of, admitted, verdict, checked}
use Rattle.laws.specs.Admitted.{admit}
use Rattle.laws.specs.ImageIn.{image_in, image_read}
use Rattle.tables.specs.Table.{Known}
use Rattle.compiler.specs.Compile.{answer_on, tree_on, compiled_on}

-- ---- an image that was accepted

module _ (words table out : List ℕ) (k : Known words table) (clean : (fault_of (image_in words)).number ≡ 0) (w : ℕ) (e : w ≡ (image_in words).form) where
  whole_is : (X : Compiled × List ℕ) → X ≡ pick (eqb (image_in words).form 0) (answer_on (image_in words) out) (Refused 14 0, out) → X ≡ compiled_on true words out
  unfolding compiled_on tree_on
  whole_is X h =
      let (n, r) = image_read words k.read in
      rw (admit true words (image_in words) n r clean) h

  pub form_given : (w ≡ 0 → ⊥) → (number : ℕ) → number ≡ 14 → ◌≡◌ {A = Compiled × List ℕ} (Refused number 0, out) (compiled_on true words out)
  form_given h number s = whole_is (Refused number 0, out) (rw (s, ne_eqb (image_in words).form 0 (λ z. h (e ∙ z))))

  pub source_written : w ≡ 0 → (r : Compiled) (after : List ℕ) → ◌≡◌ {A = Compiled × List ℕ} (r, after) (answer_on (image_in words) out)
      → ◌≡◌ {A = Compiled × List ℕ} (r, after) (compiled_on true words out)
  source_written h r after q = whole_is (r, after) (rw (eq-eqb (image_in words).form 0 (sym e ∙ h)) q)

-- ---- the checker's answer

pub refused_too : (whole : Bool) (words : List ℕ) (c : Checked) → c ≡ checked whole words → (n p : ℕ) → c ≡ NotAccepted n p
    → (out : List ℕ) → ◌≡◌ {A = Compiled × List ℕ} (Refused n p, out) (compiled_on whole words out)
unfolding checked verdict compiled_on tree_on
refused_too whole words c q n p e out = go (admitted whole words) q
  where
    go : (x : Parse Image) → c ≡ verdict x → ◌≡◌ {A = Compiled × List ℕ} (Refused n p, out) (tree_on x out)
    go (got image m) d = let z : ◌≡◌ {A = ℕ} 0 1 = cc in absurd (omega arith)
    go (refused m o) d = let a : n ≡ m = cc in let b : p ≡ o = cc in rw (a, b)

pub written_whole : (whole : Bool) (words out after : List ℕ) (r : Compiled) → whole ≡ true → ◌≡◌ {A = Compiled × List ℕ} (r, after) (compiled_on true words out)
    → ◌≡◌ {A = Compiled × List ℕ} (r, after) (compiled_on whole words out)
written_whole whole words out after r w d = d ∙ ap (λ b. compiled_on b words out) (sym w)
