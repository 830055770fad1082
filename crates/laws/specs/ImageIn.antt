-- The image that words spell, by a name, and what is known of it where it was read. Assumes nothing.
use Rattle.std.specs.Prelude.{◌≡◌, Bool, false, List, [], ℕ, ◌+◌, ◌-◌, ◌≤◌, ◌<◌, eqb, length, get_or, take, drop}
use Rattle.std.proofs.Common.{sym, ap, ◌∙◌, arith, length-take, length-drop, ext_get_or, get_or-take, get_or-drop}
use Rattle.std.proofs.Math.Bool.{true}
use Rattle.definitions.specs.Choice.{pick}
use Rattle.definitions.specs.Image.{kind_of, form_of, arrays_of, procedures_of, largest_image, Procedure, Image, cell_count}
use Rattle.definitions.specs.Reading.{got, read_image}
use Rattle.laws.specs.Parses.{ok, end_of, tree_or, tree_of, got_parts}
use Rattle.laws.specs.WordTests.{header_limits}
use Rattle.laws.specs.Spelled.{Words}
use Rattle.laws.specs.ReadImages.{ImageWords, open_image}

-- what stands for the tree of words that are refused
abbrev pub no_image : Image
no_image = record { form = 0; arrays = []; procedures = [] }

unfoldable pub image_in : List ℕ → Image
image_in words = tree_or no_image (read_image true words)

abbrev pub procedures_in : List ℕ → List Procedure
procedures_in words = (image_in words).procedures

module _ (words : List ℕ) where
  pub image_in_lem : (tree : Image) (n : ℕ) → read_image true words ≡ got tree n → image_in words ≡ tree
  unfolding image_in
  image_in_lem tree n e = tree_of no_image (read_image true words) tree n e

  module _ (t : ok (read_image true words) ≡ true) where
    pub image_read : (n : ℕ) × (read_image true words ≡ got (image_in words) n)
    unfolding image_in
    image_read = (end_of (read_image true words), got_parts no_image (read_image true words) t)

    pub image_words_lem : (n : ℕ) × ImageWords true words (image_in words) n
    image_words_lem = let (n, e) = image_read in (n, open_image true words (image_in words) n e)

-- words from a place on, as a part of the image
pub words_part : (image : List ℕ) (at n : ℕ) (ws : List ℕ) (next : ℕ) → Words image at n ws next → at + n ≤ length image
    → take n (drop at image) ≡ ws
words_part image at n ws next w h =
    let c = w.count in
    let e : length (take n (drop at image)) ≡ n = simp (length-take, length-drop) (omega arith) in
    ext_get_or 0 (take n (drop at image)) ws (e ∙ sym c)
    (λ i b. get_or-take n (drop at image) i 0 (omega arith) ∙ get_or-drop at image i 0 ∙ sym (w.word i (omega arith)))

-- the same for the slice from one place to another
pub slice_words : (image : List ℕ) (at n : ℕ) (ws : List ℕ) (next : ℕ) → Words image at n ws next → at + n ≤ length image
    → take (at + n - at) (drop at image) ≡ ws
slice_words image at n ws next w h =
    let z : at + n - at ≡ n = omega arith in ap (λ k. take k (drop at image)) z ∙ words_part image at n ws next w h

pub largest_most : (form : ℕ) → largest_image form ≤ 16384
largest_most form = go (eqb form 0)
  where
    go : (b : Bool) → pick b 4096 16384 ≤ 16384
    go true = omega arith
    go false = omega arith

-- what an image that was read keeps to
module _ {whole : Bool} {image : List ℕ} {tree : Image} {next : ℕ} (w : ImageWords whole image tree next) where
  pub header_one : kind_of (get_or image 0 0) ≡ 1
  header_one = (header_limits (get_or image 0 0) w.header).0

  pub form_limit : tree.form < 2
  form_limit = w.fits.form_fits

  pub length_limit : length image ≤ 16384
  length_limit = let m = largest_most (form_of (get_or image 0 0)) in let s = w.short in omega arith

  pub arrays_limit : arrays_of (get_or image 0 0) ≤ 16
  arrays_limit = (header_limits (get_or image 0 0) w.header).2

  pub procedures_limit : procedures_of (get_or image 0 0) ≤ 32
  procedures_limit = (header_limits (get_or image 0 0) w.header).4

  pub cells_limit : cell_count tree.arrays ≤ 1024
  cells_limit = let m = w.arrays.most (omega arith) in omega arith

  pub arrays_inside : 1 + arrays_of (get_or image 0 0) ≤ length image
  arrays_inside =
      let s = w.some in
      let a = w.arrays.words.after in
      let k = w.arrays.words.within (omega arith) in
      omega arith

  pub arrays_part : take (arrays_of (get_or image 0 0)) (drop 1 image) ≡ tree.arrays
  arrays_part = words_part image 1 (arrays_of (get_or image 0 0)) tree.arrays _ w.arrays.words arrays_inside
