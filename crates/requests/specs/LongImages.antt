-- An image of more words than any form admits is refused by its header alone: its first 16,384 words tell the answer.
-- Assumes nothing.
use Rattle.std.specs.Prelude.{◌≡◌, refl, Bool, true, false, ◌&&◌, List, ℕ, ◌<◌, leb, length, get_or, take}
use Rattle.std.proofs.Common.{sym, ◌∙◌, arith, leb-true, leb-false, ne_eqb, take_all, length-take-le, get_or-take}
use Rattle.std.proofs.Math.Path.{ap}
use Rattle.std.proofs.lemmas.Bool.{lt-leb}
use Rattle.definitions.specs.Choice.{pick}
use Rattle.definitions.specs.Image.{Image, form_of, header_word, largest_image}
use Rattle.definitions.specs.Bytes.{words_of}
use Rattle.definitions.specs.Reading.{Parse, refused, read_image}
use Rattle.definitions.specs.Checking.{without_fault, admitted, verdict, checked}
use Rattle.definitions.specs.Compiling.{compiled_tree, compiled}
use Rattle.definitions.specs.Host.{whole_words, check_bytes}
use Rattle.laws.specs.ImageIn.{largest_most}

and_false : (a : Bool) → a && false ≡ false
and_false true = refl
and_false false = refl

and_true : (a : Bool) → a && true ≡ a
and_true true = refl
and_true false = refl

-- no image is both longer than a form admits and read
beyond : (whole : Bool) (image : List ℕ) → 16384 < length image
    → read_image whole image ≡ pick (header_word (get_or image 0 0)) (refused 1 0) (refused 2 0)
unfolding read_image
beyond whole image h =
    let long : leb (length image) (largest_image (form_of (get_or image 0 0))) ≡ false =
    lt-leb (length image) (largest_image (form_of (get_or image 0 0))) (let m = largest_most (form_of (get_or image 0 0)) in omega arith) in
    rw (ne_eqb (length image) 0 (λ z. omega arith), long, and_false)

cut : (image : List ℕ) → 16384 < length image → (whole : Bool)
    → read_image false (take 16384 image) ≡ pick (header_word (get_or image 0 0)) (refused 1 0) (refused 2 0)
unfolding read_image
cut image h whole =
    let long : length (take 16384 image) ≡ 16384 = length-take-le 16384 image (omega arith) in
    rw (ne_eqb (length (take 16384 image)) 0 (λ z. omega arith), get_or-take 16384 image 0 0 (omega arith))

long_image : (whole : Bool) (image : List ℕ) → read_image whole image ≡ read_image (whole && leb (length image) 16384) (take 16384 image)
long_image whole image = go (leb (length image) 16384) refl
  where
    go : (b : Bool) → leb (length image) 16384 ≡ b → read_image whole image ≡ read_image (whole && b) (take 16384 image)
    go true e = rw (and_true, take_all 16384 image (leb-true (length image) 16384 e))
    go false e = rw and_false (beyond whole image (leb-false (length image) 16384 e) ∙ sym (cut image (leb-false (length image) 16384 e) whole))

-- what read_image leaves of lent bytes, and what admissible answers
abbrev pub front : List ℕ → List ℕ
front image = take 16384 (words_of image)

abbrev pub whole_and_short : List ℕ → Bool
whole_and_short image = whole_words image && leb (length (words_of image)) 16384

module _ (image part : List ℕ) (whole : Bool) (e : part ≡ front image) (w : whole ≡ whole_and_short image) where
  pub same_read : read_image whole part ≡ read_image (whole_words image) (words_of image)
  same_read = rw (e, w) (sym (long_image (whole_words image) (words_of image)))

  pub same_admitted : admitted whole part ≡ admitted (whole_words image) (words_of image)
  unfolding admitted
  same_admitted = ap without_fault same_read

  pub same_checked : checked whole part ≡ check_bytes image
  unfolding check_bytes checked
  same_checked = ap verdict same_admitted

  pub same_compiled : (out : List ℕ) → compiled whole part out ≡ compiled (whole_words image) (words_of image) out
  unfolding compiled
  same_compiled out = ap (λ (x : Parse Image). compiled_tree x out) same_admitted
