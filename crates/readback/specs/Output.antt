-- Where the compiler answers that it wrote words, the source was accepted, and the words that it wrote are accepted. Assumes nothing.
use Rattle.std.specs.Prelude.{ℕ, Bool, true, false, List, ◌++◌, ◌≡◌, refl, leb, eqb, length, take, drop}
use Rattle.std.proofs.Common.{ap, ◌∙◌, arith, take_at, eqb-true}
use Rattle.definitions.specs.Choice.{pick}
use Rattle.definitions.specs.declared.Compiled.{Compiled}
use Rattle.definitions.specs.declared.Compiled.TheVariants.{Written, Refused}
use Rattle.definitions.specs.declared.Checked.TheVariants.{Accepted}
use Rattle.definitions.specs.Image.{Image}
use Rattle.definitions.specs.Reading.{Parse, got, refused, read_image}
use Rattle.definitions.specs.Checking.{checked, admitted}
use Rattle.definitions.specs.Encoding.{image_words}
use Rattle.definitions.specs.Compiling.{compiled_image, fits, written, compiled_tree, compiled}
use Rattle.laws.specs.Admitted.{admitted_read}
use Rattle.readback.specs.Whole.{Sound}
use Rattle.readback.specs.Conclusion.{accepted_source, compiled_accepted}

-- the source's tree, and what the output holds
pub record Wrote (whole : Bool) (words out : List ℕ) (n : ℕ) : Type 0 where
  pub source : Image
  pub place : ℕ
  pub reading : read_image whole words ≡ got source place
  pub sound : Sound source
  pub fitting : fits (compiled_image source) ≡ true
  pub count : length (image_words (compiled_image source)) ≡ n
  pub output : (compiled whole words out).1 ≡ image_words (compiled_image source) ++ drop n out
  pub accepted : checked true (take n (compiled whole words out).1) ≡ Accepted

-- what the compiler does with a tree, by its three tests
abbrev outcome : Bool → Bool → Bool → Image → List ℕ → Compiled × List ℕ
outcome a b c i out =
    pick a
    (pick b
    (pick c (Written (length (image_words (compiled_image i))), image_words (compiled_image i) ++ drop (length (image_words (compiled_image i))) out) (Refused 16 0, out))
    (Refused 15 0, out))
    (Refused 14 0, out)

clash : {k p n : ℕ} → Refused k p ≡ Written n → ⊥
clash e = let z : ◌≡◌ {A = ℕ} 0 1 = cc in absurd (omega arith)

abbrev Passed : Image → List ℕ → ℕ → Compiled × List ℕ → Type 0
Passed i out n r =
    (i.form ≡ 0) × (fits (compiled_image i) ≡ true) × (length (image_words (compiled_image i)) ≡ n) × (r.1 ≡ image_words (compiled_image i) ++ drop n out)

passed :
    (i : Image) (out : List ℕ) (n : ℕ) (a : Bool) → eqb i.form 0 ≡ a → (b : Bool) → fits (compiled_image i) ≡ b → (c : Bool)
    → (outcome a b c i out).0 ≡ Written n → Passed i out n (outcome a b c i out)
passed i out n true ea true eb true e =
    let same : length (image_words (compiled_image i)) ≡ n = cc in
    (eqb-true i.form 0 ea, eb, same, ap (λ (m : ℕ). image_words (compiled_image i) ++ drop m out) same)
passed i out n true ea true eb false e = absurd (clash e)
passed i out n true ea false eb c e = absurd (clash e)
passed i out n false ea b eb c e = absurd (clash e)

tree_wrote : (x : Parse Image) (out : List ℕ) (n : ℕ) → (compiled_tree x out).0 ≡ Written n → (i : Image) × (m : ℕ) × (x ≡ got i m) × Passed i out n (compiled_tree x out)
unfolding compiled_tree written
tree_wrote (refused k p) out n e = absurd (clash e)
tree_wrote (got i m) out n e =
    (i, m, refl, passed i out n (eqb i.form 0) refl (fits (compiled_image i)) refl (leb (length (image_words (compiled_image i))) (length out)) e)

pub wrote : (whole : Bool) (words out : List ℕ) (n : ℕ) → (compiled whole words out).0 ≡ Written n → Wrote whole words out n
unfolding compiled
wrote whole words out n e =
    let (i, m, admits, (form, fitting, count, output)) = tree_wrote (admitted whole words) out n e in
    let (reading, faultless) = admitted_read whole words i m admits in
    let sound = accepted_source whole words i m reading form faultless in
    let first : take n (compiled whole words out).1 ≡ image_words (compiled_image i)
    = ap (take n) output ∙ take_at (image_words (compiled_image i)) (drop n out) n count in
    record {
      source = i;
      place = m;
      reading = reading;
      sound = sound;
      fitting = fitting;
      count = count;
      output = output;
      accepted = ap (checked true) first ∙ compiled_accepted i sound fitting;
    }
