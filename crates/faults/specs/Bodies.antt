-- What both passes of the checker ask of an image's procedures, and of the words of each before its body is walked. Assumes nothing.
use Rattle.std.specs.Prelude.{ℕ, ◌+◌, ◌-◌, ◌≤◌, ◌<◌, List, ◌≡◌, length, get_or, take, drop}
use Rattle.std.proofs.Common.{arith, sym, ap, ◌∙◌}
use Rattle.definitions.specs.Image.{form_of, procedures_of, largest_level}
use Rattle.definitions.specs.Reading.{got, read_block}
use Rattle.laws.specs.ImageIn.{image_in}
use Rattle.image_words.specs.Read.{BlockRead}
use Rattle.image_words.specs.StatementParts.{block_got}
use Rattle.tables.specs.Table.{place_in, body_in, params_in, Known}
use Rattle.tables.specs.Looking.{Listed, procedure_in, form_is, count_is, known_within, known_part, known_reads, body_place_lem}

-- the number of procedures stands in the header
module _ (image table : List ℕ) (k : Known image table) (w n : ℕ) (hw : w ≡ get_or image 0 0) (hn : n ≡ procedures_of w) where
  pub count_known : n ≡ length (image_in image).procedures
  count_known = hn ∙ ap procedures_of hw ∙ sym (count_is image table k)

  pub procedure_listed : (f : ℕ) → f < n → Listed image table f
  procedure_listed f h = let c = count_known in record { known = k; number = omega arith }

module _ (image table : List ℕ) (f : ℕ) (k : Listed image table f) where
  -- its type words stand between its place and its body
  module _ (p b : ℕ) (hp : p ≡ place_in table f) (hb : b ≡ body_in table f) where
    pub types_begin : p + 1 + 1 ≤ b
    types_begin = let q = body_place_lem image table k.known f k.number in omega arith

    pub types_end : b ≤ length image
    types_end = let q = body_place_lem image table k.known f k.number in let w = known_within image table k.known f k.number in omega arith

    pub types_part : take (b - (p + 1 + 1)) (drop (p + 1 + 1) image) ≡ (procedure_in image f).types
    types_part =
        let q = body_place_lem image table k.known f k.number in
        ap (λ (n : ℕ). take (b - (p + 1 + 1)) (drop (n + 1 + 1) image)) hp
        ∙ known_part image table k.known f k.number (b - (p + 1 + 1)) (omega arith)

  -- its body reads at the form's largest level
  module _ (b : ℕ) (hb : b ≡ body_in table f) (w form level : ℕ) (hw : w ≡ get_or image 0 0) (hf : form ≡ form_of w) (hl : level ≡ largest_level form) where
    pub form_known : form ≡ (image_in image).form
    form_known = hf ∙ ap form_of hw ∙ sym (form_is image table k.known)

    pub body_reads : (m : ℕ) × (read_block level (params_in table) f image b ≡ got (procedure_in image f).body m)
    body_reads =
        let (m, r) = known_reads image table k.known f k.number in
        (m, rw (hl, form_known, hb) r)

    pub body_fine : BlockRead level (params_in table) f image b
    body_fine = let (m, r) = body_reads in block_got level (params_in table) f image b (procedure_in image f).body m r
