-- Where words stand in an image. Assumes nothing.
use Rattle.std.specs.Prelude.{ℕ, zero, suc, ◌+◌, ◌≤◌, ◌<◌, List, [], ◌∷◌, ◌++◌, ◌≡◌, refl, length, get_or, drop}
use Rattle.std.proofs.Common.{append-nil, sym, ◌∙◌, arith, length-append, drop_of_length-le, drop-cons, add-one}
use Rattle.std.proofs.Math.Seq.{get_or-append_seam, append_snoc}

-- words stand in an image from one place up to another
pub data On (image : List ℕ) : ℕ → List ℕ → ℕ → Type 0 where
  on_none : {at : ℕ} → On image at [] at
  on_more : {at w next : ℕ} {ws : List ℕ} → at < length image → get_or image at 0 ≡ w → On image (at + 1) ws next → On image at (w ∷ ws) next

pub on_first : {image : List ℕ} {at w next : ℕ} {ws : List ℕ} → On image at (w ∷ ws) next → (at < length image) × (get_or image at 0 ≡ w) × On image (at + 1) ws next
on_first (on_more l e h) = (l, e, h)

pub on_nothing : {image : List ℕ} {at next : ℕ} → On image at [] next → at ≡ next
on_nothing on_none = refl

-- words and then words
pub on_join : {image : List ℕ} {at mid next : ℕ} {xs ys : List ℕ} → On image at xs mid → On image mid ys next → On image at (xs ++ ys) next
on_join on_none h = h
on_join (on_more l e g) h = on_more l e (on_join g h)

pub on_split : {image : List ℕ} {at next : ℕ} (xs ys : List ℕ) → On image at (xs ++ ys) next → (m : ℕ) × On image at xs m × On image m ys next
on_split {at} [] ys h = (at, on_none, h)
on_split {image} {at} {next} (x ∷ xs) ys (on_more l e h) = let (m, a, b) = on_split {at = at + 1} xs ys h in (m, on_more l e a, b)

pub on_end : {image : List ℕ} {at next : ℕ} {ws : List ℕ} → On image at ws next → at + length ws ≡ next
on_end {at} on_none = omega arith
on_end (on_more l e h) = let z = on_end h in omega arith

pub on_length : {image : List ℕ} {at next : ℕ} {ws : List ℕ} → On image at ws next → at ≤ length image → at + length ws ≤ length image
on_length on_none b = omega arith
on_length (on_more l e h) b = let z = on_length h (omega arith) in omega arith

-- words that stand up to the image's end are what is left of it
pub on_rest : {image : List ℕ} {at next : ℕ} {ws : List ℕ} → On image at ws next → next ≡ length image → drop at image ≡ ws
on_rest {image} {at} on_none e = drop_of_length-le image {i = at} (omega arith)
on_rest {image} {at} (on_more {w = w} {ws = ws} l h r) e = rw (drop-cons image at 0 l, h, ← (add-one at), on_rest r e)

-- an image's words stand in it from its start to its end
pub on_whole : (image before ws : List ℕ) → image ≡ before ++ ws → On image (length before) ws (length image)
on_whole image before [] e = rw (e, append-nil) on_none
on_whole image before (w ∷ ws) e =
    let long : length image ≡ length before + suc (length ws) = rw e (length-append before (w ∷ ws)) in
    let shift : length before + 1 ≡ length (before ++ (w ∷ [])) = sym (length-append before (w ∷ [])) in
    let here : length before < length image = omega arith in
    let word : get_or image (length before) 0 ≡ w = rw e (get_or-append_seam before w ws 0) in
    let rest : On image (length before + 1) ws (length image) = rw shift (on_whole image (before ++ (w ∷ [])) ws (e ∙ sym (append_snoc before w ws))) in
    on_more here word rest

-- so many words of the image from a place on
pub record Words (image : List ℕ) (at n : ℕ) (ws : List ℕ) (next : ℕ) : Type 0 where
  pub count : length ws ≡ n
  pub word : (i : ℕ) → i < n → get_or ws i 0 ≡ get_or image (at + i) 0
  pub after : next ≡ at + n
  pub within : at ≤ length image → next ≤ length image

pub words_on : {image : List ℕ} {at n next : ℕ} {ws : List ℕ} → length ws ≡ n → On image at ws next → Words image at n ws next
words_on {image} {at} {n} {next} c o =
    let e = on_end o in
    record {
      count = c;
      word = λ i h. on_word_lem o i (omega arith);
      after = omega arith;
      within = λ h. let l = on_length o h in omega arith;
    }
  where
    on_word_lem : {at next : ℕ} {ws : List ℕ} → On image at ws next → (i : ℕ) → i < length ws → get_or ws i 0 ≡ get_or image (at + i) 0
    on_word_lem on_none i h = absurd (omega arith)
    on_word_lem {at} (on_more l e r) zero h = let z : at + 0 ≡ at = omega arith in rw z (sym e)
    on_word_lem {at} (on_more l e r) (suc i) h = let z : at + suc i ≡ at + 1 + i = omega arith in rw z (on_word_lem r i (omega arith))
