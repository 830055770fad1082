-- What a program's procedure is made of: its type words stand between its place and its body. Assumes nothing.
use Rattle.std.specs.Prelude.{ℕ, ◌+◌, ◌-◌, ◌≤◌, ◌<◌, List, ◌≡◌, length, get_or, take, drop}
use Rattle.std.proofs.Common.{arith, sym, ap, ◌∙◌}
use Rattle.definitions.specs.Image.{form_of, procedures_of}
use Rattle.laws.specs.ImageIn.{image_in}
use Rattle.tables.specs.Table.{Known, place_in, body_in}
use Rattle.tables.specs.Looking.{Listed, procedure_in, count_is, form_is, known_within, known_part, body_place_lem}

module _ (image table : List ℕ) (k : Known image table) (w : ℕ) (hw : w ≡ get_or image 0 0) where
  pub counted : (n : ℕ) → n ≡ procedures_of w → n ≡ length (image_in image).procedures
  counted n h = h ∙ ap procedures_of hw ∙ sym (count_is image table k)

  pub formed : (n : ℕ) → n ≡ form_of w → n ≡ (image_in image).form
  formed n h = h ∙ ap form_of hw ∙ sym (form_is image table k)

module _ (image table : List ℕ) (f : ℕ) (k : Known image table) (h : f < length (image_in image).procedures) where
  pub listed : Listed image table f
  listed = record { known = k; number = h }

  module _ (p b : ℕ) (hp : p ≡ place_in table f) (hb : b ≡ body_in table f) where
    pub types_begin : p + 1 + 1 ≤ b
    types_begin = let q = body_place_lem image table k f h in omega arith

    pub types_end : b ≤ length image
    types_end = let q = body_place_lem image table k f h in let w = known_within image table k f h in omega arith

    pub types_part : take (b - (p + 1 + 1)) (drop (p + 1 + 1) image) ≡ (procedure_in image f).types
    types_part =
        let q = body_place_lem image table k f h in
        ap (λ (n : ℕ). take (b - (p + 1 + 1)) (drop (n + 1 + 1) image)) hp
        ∙ known_part image table k f h (b - (p + 1 + 1)) (omega arith)
