-- The first 65,540 bytes of an image, one word more than any form admits, tell its answer. Assumes nothing.
use Rattle.std.specs.Prelude.{◌≡◌, refl, Bool, true, false, ◌&&◌, eqb, leb, length, take}
use Rattle.std.proofs.Common.{sym, ◌∙◌, arith, leb-true, leb-false, ne_eqb, take_all, take-take, length-take-le}
use Rattle.std.proofs.Math.Path.{ap}
use mathlib.Core.List.{List, [], ◌∷◌}
use Prim.Native.Nat.{ℕ, zero, suc, ◌*◌, ◌<◌}
use Rattle.std.proofs.lemmas.Bool.{lt-leb}
use Rattle.definitions.specs.declared.Compiled.{Compiled}
use Rattle.definitions.specs.Bytes.{joined, words_of, lent}
use Rattle.definitions.specs.Image.{Image}
use Rattle.definitions.specs.Reading.{Parse, read_image}
use Rattle.definitions.specs.Checking.{without_fault, admitted, verdict, checked}
use Rattle.definitions.specs.Compiling.{compiled_tree, compiled}
use Rattle.definitions.specs.Describing.{described_tree, described}
use Rattle.definitions.specs.Requests.{Ready, Called, with_cells, ready_to_load, ready_to_serve, served, called_on, served_call, call, preview}
use Rattle.definitions.specs.Requests.{bound_on, bound}
use Rattle.definitions.specs.Host.{whole_words, check_bytes, compile_bytes, describe_bytes, call_bytes, preview_bytes}
use Rattle.definitions.specs.Host.{on_cells, bound_bytes}
use Rattle.laws.specs.WordsOfBytes.{length_words_of}
use Rattle.requests.specs.LongImages.{front, whole_and_short, same_read}

words_take : (n : ℕ) (b : List ℕ) → words_of (take (4 * n) b) ≡ take n (words_of b)
unfolding words_of
words_take zero b = refl
words_take (suc n) b = rw (four n) (go b (words_take n))
  where
    four : (k : ℕ) → 4 * suc k ≡ suc (suc (suc (suc (4 * k))))
    four k = omega arith

    go : (c : List ℕ) → ((d : List ℕ) → words_of (take (4 * n) d) ≡ take n (words_of d)) → words_of (take (suc (suc (suc (suc (4 * n))))) c) ≡ take (suc n) (words_of c)
    go [] more = refl
    go (x ∷ []) more = refl
    go (x ∷ y ∷ []) more = refl
    go (x ∷ y ∷ z ∷ []) more = refl
    go (x ∷ y ∷ z ∷ u ∷ c) more = ap (λ r. joined x y z u ∷ r) (more c)

not_short : (a : Bool) (n : ℕ) → 16384 < n → a && leb n 16384 ≡ false
not_short true n h = lt-leb n 16384 h
not_short false n h = refl

not_empty : (a : Bool) (n : ℕ) → 0 < n → a && eqb n 0 ≡ false
not_empty true n h = ne_eqb n 0 (λ z. omega arith)
not_empty false n h = refl

-- a longer image
module _ (image : List ℕ) (h : 65540 < length image) where
  pub first_length : 65540 ≡ length (take 65540 image)
  first_length = sym (length-take-le 65540 image (omega arith))

  pub first_shorter : length (take 65540 image) < length image
  first_shorter = let e = first_length in omega arith

  words_many : 16384 < length (words_of image)
  words_many = omega (arith, length_words_of image)

  first_many : 16384 < length (words_of (take 65540 image))
  first_many = omega (arith, length_words_of (take 65540 image), length-take-le 65540 image (omega arith))

  same_front : front (take 65540 image) ≡ front image
  same_front = ap (take 16384) (words_take 16385 image) ∙ take-take 16384 16385 (words_of image) (omega arith)

  same_test : whole_and_short (take 65540 image) ≡ whole_and_short image
  same_test = not_short (whole_words (take 65540 image)) (length (words_of (take 65540 image))) first_many
      ∙ sym (not_short (whole_words image) (length (words_of image)) words_many)

  pub first_read : read_image (whole_words (take 65540 image)) (words_of (take 65540 image)) ≡ read_image (whole_words image) (words_of image)
  first_read = sym (same_read (take 65540 image) (front image) (whole_and_short image) (sym same_front) (sym same_test))
      ∙ same_read image (front image) (whole_and_short image) refl refl

  pub first_checked : check_bytes (take 65540 image) ≡ check_bytes image
  unfolding check_bytes checked admitted
  first_checked = ap (λ (x : Parse Image). verdict (without_fault x)) first_read

  pub first_compiled : (out : List ℕ) → compile_bytes (take 65540 image) out ≡ compile_bytes image out
  unfolding compile_bytes compiled admitted
  first_compiled out = ap (λ (x : Parse Image). let r : Compiled × List ℕ = compiled_tree (without_fault x) (words_of out) in (r.0, lent out r.1)) first_read

  pub first_described : (out : List ℕ) → describe_bytes (take 65540 image) out ≡ describe_bytes image out
  unfolding describe_bytes described admitted
  first_described out = ap (λ (x : Parse Image). let r : Compiled × List ℕ = described_tree (without_fault x) (words_of out) in (r.0, lent out r.1)) first_read

  pub first_loadable : (count : ℕ) → ready_to_load (whole_words (take 65540 image)) (words_of (take 65540 image)) count ≡ ready_to_load (whole_words image) (words_of image) count
  unfolding ready_to_load admitted
  first_loadable count = ap (λ (x : Parse Image). with_cells (without_fault x) count) first_read

  first_served : (count : ℕ) → ready_to_serve (whole_words (take 65540 image)) (words_of (take 65540 image)) count ≡ ready_to_serve (whole_words image) (words_of image) count
  unfolding ready_to_serve
  first_served count = rw (
    not_empty (whole_words (take 65540 image)) (length (words_of (take 65540 image))) (let m = first_many in omega arith),
    not_empty (whole_words image) (length (words_of image)) (let m = words_many in omega arith),
  ) (first_loadable count)

  pub first_bounded : (cells : List ℕ) (f : ℕ) → bound_bytes (take 65540 image) cells f ≡ bound_bytes image cells f
  unfolding bound_bytes bound
  first_bounded cells f =
      ap (λ (x : Ready). on_cells cells (served x (words_of cells) (λ m. (bound_on m f, words_of cells)))) (first_served (length (words_of cells)))

  module _ (cells : List ℕ) (f : ℕ) (arguments : List ℕ) (budget : ℕ) (trace : List ℕ) where
    -- on words
    first_call : call (whole_words (take 65540 image)) (words_of (take 65540 image)) (words_of cells) f (words_of arguments) budget (length (words_of trace))
        ≡ call (whole_words image) (words_of image) (words_of cells) f (words_of arguments) budget (length (words_of trace))
    unfolding call
    first_call = ap
        (λ (x : Ready). served_call x (words_of cells) (λ m. called_on m (words_of cells) f (words_of arguments) budget (length (words_of trace))))
        (first_served (length (words_of cells)))

    pub first_called : call_bytes (take 65540 image) cells f arguments budget trace ≡ call_bytes image cells f arguments budget trace
    unfolding call_bytes
    first_called = ap (λ (r : Called). (r.0, lent cells r.1, lent trace r.2)) first_call

    pub first_previewed : preview_bytes (take 65540 image) cells f arguments budget trace ≡ preview_bytes image cells f arguments budget trace
    unfolding preview_bytes preview
    first_previewed = ap (λ (r : Called). (r.0, lent cells (words_of cells), lent trace r.2)) first_call

-- the same of an image of any length: a shorter one is its own first bytes
pub first_bytes : (image out : List ℕ) → compile_bytes (take 65540 image) out ≡ compile_bytes image out
first_bytes image out = go (leb (length image) 65540) refl
  where
    go : (t : Bool) → leb (length image) 65540 ≡ t → compile_bytes (take 65540 image) out ≡ compile_bytes image out
    go true e = rw (take_all 65540 image (leb-true (length image) 65540 e))
    go false e = first_compiled image (leb-false (length image) 65540 e) out
