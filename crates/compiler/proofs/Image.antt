-- What the returns of the emission of an image and of the compiler give, and what their calls ask. Assumes nothing.
use Prim.Native.Nat.{ℕ, suc, ◌+◌, ◌*◌, ◌-◌, ◌≤◌, ◌<◌}
use mathlib.Core.Bool.{Bool, true, false}
use mathlib.Core.List.{List, [], ◌∷◌, ◌++◌}
use mathlib.Core.Path.{◌≡◌, refl, sym, ap, ◌∙◌}
use native.Mathlib.Omega.{arith}
use borrow.Author.Tests.{leb-true, leb-false, le-leb, lt-leb}
use lib.Dec.{leb}
use lib.ListN.{length, get_or, take, drop}
use Rattle.definitions.specs.declared.Compiled.{Compiled}
use Rattle.definitions.specs.declared.Compiled.TheVariants.{Written, Refused}
use Rattle.definitions.specs.Image.{arrays_of, Procedure, Image}
use Rattle.definitions.specs.Encoding.{word_with, procedures_words, image_words}
use Rattle.definitions.specs.Compiling.{compiled_procedures, compiled_image, fit_locals, written}
use Rattle.laws.specs.ImageIn.{image_in, procedures_in, image_words_lem, arrays_inside, arrays_part}
use Rattle.laws.specs.CompiledLocals.{locals_always_fit}
use Rattle.tables.specs.Table.{array_count_in, Known}
use Rattle.tables.specs.Looking.{known_count, few_arrays, few_procedures}
use Rattle.writer.specs.Writing.{Output, write, writes}
use Rattle.writer.specs.Laws.{writes_on, writes_app, place, place_far}
use Rattle.compiler.specs.Compile.{answer_on}

compiled_count : (ps : List Procedure) (arrays : List ℕ) (rest : List Procedure) → length (compiled_procedures ps arrays rest) ≡ length rest
unfolding compiled_procedures
compiled_count ps arrays [] = refl
compiled_count ps arrays (p ∷ rest) = ap suc (compiled_count ps arrays rest)

module _ (image table : List ℕ) (k : Known image table) where
  pub few : (array_count_in table ≤ 16) × (length (image_in image).procedures ≤ 32)
  few = let c = known_count image table k in let a = few_arrays image table k in (omega arith, few_procedures image table k)

  module _ (n : ℕ) (hn : n ≡ array_count_in table) where
    counted : n ≡ length (image_in image).arrays
    counted = hn ∙ known_count image table k

    pub arrays_within : 1 + n ≤ length image
    arrays_within =
        let (m, w) = image_words_lem image k.read in let a = arrays_inside w in let b = w.arrays.words.count in let c = counted in omega arith

    -- the array words of the image
    arrays_are : take (1 + n - 1) (drop 1 image) ≡ (image_in image).arrays
    arrays_are =
        let (m, w) = image_words_lem image k.read in
        let b = w.arrays.words.count in
        let c = counted in
        let z : 1 + n - 1 ≡ arrays_of (get_or image 0 0) = omega arith in
        ap (λ (i : ℕ). take i (drop 1 image)) z ∙ arrays_part w

    -- the header of the compiled image
    header_is : (a m : ℕ) → a ≡ n → m ≡ length (procedures_in image) → word_with 1 (1 * 65536 + a * 256 + m)
        ≡ word_with 1 (1 * 65536 + length (image_in image).arrays * 256 + length (compiled_procedures (procedures_in image) (image_in image).arrays (procedures_in image)))
    header_is a m ha hm =
        let c = counted in
        let d = compiled_count (procedures_in image) (image_in image).arrays (procedures_in image) in
        omega arith

    pub image_on : (o : ℕ) (out : List ℕ) (a m v p : ℕ) (t1 : List ℕ) (q : ℕ) (t2 : List ℕ) (r : ℕ) (t3 : List ℕ) → a ≡ n → m ≡ length (procedures_in image)
        → v ≡ word_with 1 (1 * 65536 + a * 256 + m) → ◌≡◌ {A = Output} (p, t1) (write o out v)
        → ◌≡◌ {A = Output} (q, t2) (writes p t1 (take (1 + n - 1) (drop 1 image)))
        → ◌≡◌ {A = Output} (r, t3) (writes q t2 (procedures_words (compiled_procedures (procedures_in image) (image_in image).arrays (procedures_in image))))
        → ◌≡◌ {A = Output} (r, t3) (writes o out (image_words (compiled_image (image_in image))))
    unfolding image_words compiled_image
    image_on o out a m v p t1 q t2 r t3 ha hm hv e f g =
        let A = (image_in image).arrays in
        let P = compiled_procedures (procedures_in image) A (procedures_in image) in
        let F : ◌≡◌ {A = Output} (q, t2) (writes o out (v ∷ A)) =
        f ∙ ap (λ ws. writes p t1 ws) arrays_are ∙ ap (λ (z : Output). writes z.0 z.1 A) e ∙ sym (writes_on o out v A) in
        g ∙ ap (λ (z : Output). writes z.0 z.1 (procedures_words P)) F ∙ sym (writes_app (v ∷ A) (procedures_words P) o out)
        ∙ ap (λ (h : ℕ). writes o out (h ∷ (A ++ procedures_words P))) (hv ∙ header_is a m ha hm)

-- what an output left of the words that were lent to it, once it is known that it kept its buffer
pub lent_back : (out ws : List ℕ) (place : ℕ) (t : List ℕ) → ◌≡◌ {A = Output} (place, t) (writes 0 out ws) → {new old : ℕ} → new ≡ old
    → (after : (x : List ℕ) × (length x ≡ length out × (old ≡ new → x ≡ t))) → ◌≡◌ {A = Output} (place, after.0) (writes 0 out ws)
lent_back out ws place t e kept after = ap (λ (x : List ℕ). (place, x)) (after.1.1 (sym kept)) ∙ e

-- ---- refusals: the place tells the number of words, or that there are too many

-- "15 result over form 1's limits": its locals are within them
pub locals_within : (image table : List ℕ) → Known image table → (image_in image).form ≡ 0 → fit_locals (compiled_image (image_in image)).procedures ≡ true
locals_within image table k s = let (n, w) = image_words_lem image k.read in locals_always_fit (image_in image) w.fits s

module _ (tree : Image) (fit : fit_locals (compiled_image tree).procedures ≡ true) (out : List ℕ) (end : ℕ) (t : List ℕ)
    (s : ◌≡◌ {A = Output} (end, t) (writes 0 out (image_words (compiled_image tree)))) (most : ℕ) (e : most ≡ 16384) where
  place_is : end ≡ (writes 0 out (image_words (compiled_image tree))).0
  place_is = ap (λ (z : Output). z.0) s

  words_are : t ≡ (writes 0 out (image_words (compiled_image tree))).1
  words_are = ap (λ (z : Output). z.1) s

  size_small : end ≤ 16384 → end ≡ length (image_words (compiled_image tree))
  size_small h = go (leb (length (image_words (compiled_image tree))) 16385) refl
    where
      go : (b : Bool) → leb (length (image_words (compiled_image tree))) 16385 ≡ b → end ≡ length (image_words (compiled_image tree))
      go true k =
          let z : length (image_words (compiled_image tree)) ≤ 16385 = leb-true _ _ k in
          place_is ∙ place (image_words (compiled_image tree)) 0 out (omega arith) ∙ omega arith
      go false k =
          let z : 16385 < length (image_words (compiled_image tree)) = leb-false _ _ k in
          let y : end ≡ 16385 = place_is ∙ place_far (image_words (compiled_image tree)) 0 out (omega arith) (omega arith) in
          absurd (omega arith)

  size_large : 16384 < end → 16384 < length (image_words (compiled_image tree))
  size_large h = go (leb (length (image_words (compiled_image tree))) 16384) refl
    where
      go : (b : Bool) → leb (length (image_words (compiled_image tree))) 16384 ≡ b → 16384 < length (image_words (compiled_image tree))
      go true k =
          let z : length (image_words (compiled_image tree)) ≤ 16384 = leb-true _ _ k in
          let y : end ≡ 0 + length (image_words (compiled_image tree)) = place_is ∙ place (image_words (compiled_image tree)) 0 out (omega arith) in
          absurd (omega arith)
      go false k = leb-false _ _ k

  pub words_over : most < end → (number : ℕ) → number ≡ 15 → ◌≡◌ {A = Compiled × List ℕ} (Refused number 0, t) (answer_on tree out)
  unfolding answer_on written
  words_over g number k = rw (k, fit, lt-leb _ _ (size_large (omega arith)), words_are)

  module _ (g : end ≤ most) (room : ℕ) (r : room ≡ length out) where
    pub output_short : room < end → (number : ℕ) → number ≡ 16 → ◌≡◌ {A = Compiled × List ℕ} (Refused number 0, t) (answer_on tree out)
    unfolding answer_on written
    output_short k number s =
        let z = size_small (omega arith) in
        let a : length (image_words (compiled_image tree)) ≤ 16384 = omega arith in
        let b : length out < length (image_words (compiled_image tree)) = omega arith in
        rw (s, fit, le-leb _ _ a, lt-leb _ _ b, words_are)

    pub all_written : end ≤ room → ◌≡◌ {A = Compiled × List ℕ} (Written end, t) (answer_on tree out)
    unfolding answer_on written
    all_written k =
        let z = size_small (omega arith) in
        let a : length (image_words (compiled_image tree)) ≤ 16384 = omega arith in
        let b : length (image_words (compiled_image tree)) ≤ length out = omega arith in
        rw (fit, le-leb _ _ a, le-leb _ _ b, z, words_are)
