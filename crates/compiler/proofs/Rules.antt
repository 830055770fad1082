-- The procedures that are left to emit. Assumes nothing.
use Prim.Native.Nat.{ℕ, suc, ◌+◌, ◌≤◌, ◌<◌}
use mathlib.Core.List.{List, ◌∷◌, flat_map}
use mathlib.Core.Path.{◌≡◌, sym, ap, ◌∙◌}
use native.Mathlib.Numerals.{add-one}
use lib.ListN.{length, drop, drop_of_length-le}
use lib.Seq.{drop-cons}
use Rattle.definitions.specs.Image.{procedure_at, no_procedure}
use Rattle.definitions.specs.Encoding.{procedure_words, procedures_words}
use Rattle.definitions.specs.Compiling.{compiled_procedure, compiled_procedures}
use Rattle.laws.specs.ImageIn.{image_in, procedures_in}
use Rattle.writer.specs.Writing.{Output, writes}
use Rattle.writer.specs.Laws.{writes_nil, writes_app}
use Rattle.procedures.specs.Procedures.{procedure_for}

module _ (image : List ℕ) (me o : ℕ) (out : List ℕ) (X : Output)
    (u : writes o out (procedures_words (compiled_procedures (procedures_in image) (image_in image).arrays (drop me (procedures_in image)))) ≡ X) where
  pub each_done : length (procedures_in image) ≤ me → ◌≡◌ {A = Output} (o, out) X
  unfolding flat_map compiled_procedures procedures_words
  each_done h =
      sym (writes_nil o out)
      ∙ sym (ap (λ l. writes o out (procedures_words (compiled_procedures (procedures_in image) (image_in image).arrays l)))
      (drop_of_length-le (procedures_in image) {i = me} h)) ∙ u

  pub each_more : me < length (procedures_in image) → (r : ℕ) (t : List ℕ)
      → ◌≡◌ {A = Output} (r, t) (writes o out (procedure_words (procedure_for image me)))
      → writes r t (procedures_words (compiled_procedures (procedures_in image) (image_in image).arrays (drop (me + 1) (procedures_in image)))) ≡ X
  unfolding flat_map compiled_procedures procedures_words
  each_more h r t g =
      let ps = procedures_in image in
      let A = (image_in image).arrays in
      let z : drop me ps ≡ procedure_at ps me ∷ drop (suc me) ps = drop-cons ps me no_procedure h in
      let R = procedures_words (compiled_procedures ps A (drop (suc me) ps)) in
      ap (λ (j : ℕ). writes r t (procedures_words (compiled_procedures ps A (drop j ps)))) (add-one me)
      ∙ ap (λ (y : Output). writes y.0 y.1 R) g
      ∙ sym (writes_app (procedure_words (compiled_procedure ps A (procedure_at ps me))) R o out)
      ∙ sym (ap (λ l. writes o out (procedures_words (compiled_procedures ps A l))) z) ∙ u
