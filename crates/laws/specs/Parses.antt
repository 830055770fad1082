-- What reading a place gave: whether a part was read there, and what the parts of a part that was read are.
-- Assumes nothing.
use Rattle.std.specs.Prelude.{◌≡◌, refl, Bool, true, false, List, ℕ, ◌<◌, leb, length, get_or}
use Rattle.std.proofs.Common.{sym, ap, ◌∙◌, leb-false}
use Rattle.std.proofs.lemmas.Bool.{lt-leb}
use Rattle.definitions.specs.Choice.{pick}
use Rattle.definitions.specs.Reading.{Parse, got, refused, and_then, on_word}
use Rattle.laws.specs.Tests.{false_true}

-- whether a part was read
unfoldable pub ok : {A : Type 0} → Parse A → Bool
ok (got a n) = true
ok (refused n p) = false

-- the part, or the given one where there is none
unfoldable pub tree_or : {A : Type 0} → A → Parse A → A
tree_or d (got a n) = a
tree_or d (refused n p) = d

-- the place after the part, 0 where there is none
unfoldable pub end_of : {A : Type 0} → Parse A → ℕ
end_of (got a n) = n
end_of (refused n p) = 0

pub ok_of : {A : Type 0} (x : Parse A) (a : A) (n : ℕ) → x ≡ got a n → ok x ≡ true
unfolding ok
ok_of x a n e = ap ok e

pub got_ok : {A : Type 0} (x : Parse A) → ok x ≡ true → (a : A) × (n : ℕ) × (x ≡ got a n)
unfolding ok
got_ok (got a n) t = (a, n, refl)
got_ok (refused n p) t = false_true t

pub end_of_lem : {A : Type 0} (x : Parse A) (a : A) (n : ℕ) → x ≡ got a n → end_of x ≡ n
unfolding end_of
end_of_lem x a n e = ap end_of e

pub tree_of : {A : Type 0} (d : A) (x : Parse A) (a : A) (n : ℕ) → x ≡ got a n → tree_or d x ≡ a
unfolding tree_or
tree_of d x a n e = ap (λ z. tree_or d z) e

-- a part that was read is its tree with its end
pub got_parts : {A : Type 0} (d : A) (x : Parse A) → ok x ≡ true → x ≡ got (tree_or d x) (end_of x)
unfolding ok tree_or end_of
got_parts d (got a n) t = refl
got_parts d (refused n p) t = false_true t

pub got_same : {A : Type 0} (x : Parse A) (a b : A) (n m : ℕ) → x ≡ got a n → x ≡ got b m → (a ≡ b) × (n ≡ m)
got_same x a b n m e f = (cc, cc)

-- a part and what follows it
pub ok_then : {A B : Type 0} (x : Parse A) (f : A → ℕ → Parse B) → ok (and_then x f) ≡ true
    → (a : A) × (n : ℕ) × (x ≡ got a n) × (ok (f a n) ≡ true)
unfolding ok
ok_then (got a n) f t = (a, n, refl, t)
ok_then (refused n p) f t = false_true t

-- a word that was read
pub on_ok : {A : Type 0} (image : List ℕ) (at : ℕ) (good : ℕ → Bool) (f : ℕ → Parse A) → ok (on_word image at good f) ≡ true
    → (at < length image) × (good (get_or image at 0) ≡ true) × (on_word image at good f ≡ f (get_or image at 0))
unfolding ok
on_ok image at good f = ends (leb (length image) at) (good (get_or image at 0)) refl
  where
    ends : (b g : Bool) → leb (length image) at ≡ b
        → ok (pick b (refused 3 (length image)) (pick g (f (get_or image at 0)) (refused 2 at))) ≡ true
        → (at < length image) × (g ≡ true)
        × (pick b (refused 3 (length image)) (pick g (f (get_or image at 0)) (refused 2 at)) ≡ f (get_or image at 0))
    ends true g e t = false_true t
    ends false true e t = (leb-false _ _ e, refl, refl)
    ends false false e t = false_true t

-- the other way: a word within the image that is as it should be
pub on_word_lem : {A : Type 0} (image : List ℕ) (at : ℕ) (good : ℕ → Bool) (f : ℕ → Parse A) → at < length image → good (get_or image at 0) ≡ true
    → on_word image at good f ≡ f (get_or image at 0)
on_word_lem image at good f h g = rw (lt-leb _ _ h, g)

-- One, two or three parts in a row, of which `make` makes the whole.
pub open_one : {A C : Type 0} (z : Parse C) (x : Parse A) (make : A → C) → z ≡ and_then x (λ a n. got (make a) n) → ok z ≡ true
    → (a : A) × (n : ℕ) × (x ≡ got a n) × (z ≡ got (make a) n)
unfolding ok
open_one z (got a n) make e t = (a, n, refl, e)
open_one z (refused n p) make e t = false_true (sym (ap ok e) ∙ t)

pub open_two : {A B C : Type 0} (z : Parse C) (x : Parse A) (y : ℕ → Parse B) (make : A → B → C)
    → z ≡ and_then x (λ a n. and_then (y n) (λ b m. got (make a b) m)) → ok z ≡ true
    → (a : A) × (n : ℕ) × (b : B) × (m : ℕ) × (x ≡ got a n) × (y n ≡ got b m) × (z ≡ got (make a b) m)
unfolding ok
open_two z (got a n) y make e t = let (b, m, f, q) = open_one z (y n) (make a) e t in (a, n, b, m, refl, f, q)
open_two z (refused n p) y make e t = false_true (sym (ap ok e) ∙ t)

pub open_three : {A B C D : Type 0} (z : Parse D) (x : Parse A) (y : ℕ → Parse B) (w : ℕ → Parse C) (make : A → B → C → D)
    → z ≡ and_then x (λ a n. and_then (y n) (λ b m. and_then (w m) (λ c o. got (make a b c) o))) → ok z ≡ true
    → (a : A) × (n : ℕ) × (b : B) × (m : ℕ) × (c : C) × (o : ℕ)
    × (x ≡ got a n) × (y n ≡ got b m) × (w m ≡ got c o) × (z ≡ got (make a b c) o)
unfolding ok
open_three z (got a n) y w make e t =
    let (b, m, c, o, f, g, q) = open_two z (y n) w (make a) e t in (a, n, b, m, c, o, refl, f, g, q)
open_three z (refused n p) y w make e t = false_true (sym (ap ok e) ∙ t)
