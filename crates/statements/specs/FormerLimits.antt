-- Document 02, wish 1: what "Every image within the new limits keeps its answers" speaks of. Reading as in definitions/specs/Reading.antt, with
-- the largest levels left open, so that the former ones can stand beside today's.
use Rattle.std.specs.Prelude.{ℕ, zero, suc, ◌+◌, ◌≤◌, ◌<◌, Bool, true, ◌&&◌, List, [], ◌∷◌, ◌≡◌, leb, eqb, length, get_or, set, replicate}
use Rattle.definitions.specs.Choice.{pick}
use Rattle.definitions.specs.Image.{form_of, arrays_of, procedures_of, header_word, largest_image, mode_of, parameters_of, locals_of}
use Rattle.definitions.specs.Image.{procedure_word, type_word, Procedure, Image}
use Rattle.definitions.specs.Encoding.{image_words}
use Rattle.definitions.specs.Reading.{Parse, got, refused, and_then, on_word, read_block, read_types, read_arrays}
use Rattle.definitions.specs.Checking.{without_fault}
use Rattle.statements.specs.Limits.{FitsImage}
use Rattle.statements.specs.FormerAnswers.{AnswersAs}

-- `read_procedure` to `read_image`, with the largest level by form as it is given
module _ (largest : ℕ → ℕ) where
  unfoldable pub read_procedure_by : ℕ → List ℕ → ℕ → List ℕ → ℕ → Parse Procedure
  read_procedure_by form params me image at = on_word image at (λ w. procedure_word form w)
      (λ w. on_word image (at + 1) type_word (λ r. and_then (read_types (parameters_of w + locals_of w) image (at + 1 + 1))
      (λ ts n. and_then (read_block (largest form) params me image n)
      (λ b m. got (record { place = at; mode = mode_of w; parameters = parameters_of w; result = r; types = ts; body = b }) m))))

  unfoldable pub read_procedures_by : ℕ → ℕ → List ℕ → ℕ → List ℕ → ℕ → Parse (List Procedure)
  read_procedures_by zero form params me image at = got [] at
  read_procedures_by (suc n) form params me image at = and_then (read_procedure_by form params me image at)
      (λ p m. and_then (read_procedures_by n form (set params me p.parameters) (me + 1) image m) (λ ps o. got (p ∷ ps) o))

  unfoldable pub read_rest_by : ℕ → List ℕ → Parse Image
  read_rest_by header image = and_then (read_arrays (arrays_of header) 0 image 1)
      (λ ws n. and_then (read_procedures_by (procedures_of header) (form_of header) (replicate 32 0) 0 image n)
      (λ ps m. pick (eqb m (length image))
      (got (record { form = form_of header; arrays = ws; procedures = ps }) m)
      (refused 4 m)))

  unfoldable pub read_image_by : Bool → List ℕ → Parse Image
  read_image_by whole image = pick (eqb (length image) 0) (refused 1 0)
      (pick (header_word (get_or image 0 0))
      (pick (whole && leb (length image) (largest_image (form_of (get_or image 0 0))))
      (read_rest_by (get_or image 0 0) image)
      (refused 1 0))
      (refused 2 0))

-- Document 01: "Largest level 32 in form 0, 40 in form 1."
abbrev pub former_level : ℕ → ℕ
former_level form = pick (eqb form 0) 32 40

abbrev pub former_read_image : Bool → List ℕ → Parse Image
former_read_image = read_image_by former_level

-- what stands at the given place or behind it: the end of the part that was read, or the place of the refusal
pub data From (m : ℕ) {A : Type 0} : Parse A → Type 0 where
  from_got : {a : A} {n : ℕ} → m ≤ n → From m (got a n)
  from_refused : {k p : ℕ} → m ≤ p → From m (refused k p)

-- Two readings of one part, the second with more levels: they give the same part, or the same refusal of 1 to 4, or the first is refused with 5 at a
-- word of the image, and the second goes on behind that word.
pub data Kept (image : List ℕ) {A : Type 0} : Parse A → Parse A → Type 0 where
  same_part : {a : A} {n : ℕ} → Kept image (got a n) (got a n)
  same_refusal : {k p : ℕ} → k ≤ 4 → Kept image (refused k p) (refused k p)
  deeper : {p : ℕ} {y : Parse A} → p < length image → From (suc p) y → Kept image (refused 5 p) y

-- "within the new limits": whole words that spell a tree which keeps the limits (Limits), and no more of them than its form allows. It may have faults
-- of 6 to 13.
pub record WithinLimits (whole : Bool) (words : List ℕ) (tree : Image) : Type 0 where
  pub in_words : whole ≡ true
  pub spelled : words ≡ image_words tree
  pub limits : FitsImage tree
  pub short : length words ≤ largest_image tree.form

-- The answers that an image has by today's limits are those that it had by the former ones.
abbrev pub SameAnswers : Bool → List ℕ → Type 0
SameAnswers whole image = AnswersAs (without_fault (former_read_image whole image)) whole image
