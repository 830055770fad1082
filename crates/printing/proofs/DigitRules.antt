-- Rules for the digits of a number. Assumes nothing.
use mathlib.Core.Path.{◌≡◌, refl, sym, ap, ◌∙◌}
use mathlib.Core.Bool.{Bool, true, false}
use mathlib.Core.List.{List, [], ◌∷◌, ◌++◌}
use Prim.Native.Nat.{ℕ, zero, suc, ◌+◌, ◌-◌, ◌*◌, ◌/◌, ◌%◌, ◌^◌, ◌≤◌, ◌<◌}
use native.Mathlib.Omega.{arith}
use native.Mathlib.Nat.{pow-suc, pow-le-pow_right}
use borrow.Author.Tests.{lt-ltb, le-ltb, leb-true, leb-false}
use lib.Dec.{ltb, leb}
use native.Mathlib.Numerals.{add-one}
use lib.ListN.{length, get_or, take, drop, set}
use lib.Seq.{paste, take-paste, drop-paste, paste-suc, take-length, length-take-le}
use Rattle.io.specs.Digits.{last_digits, IsDigitCount}
use Rattle.printing.specs.Text.{hex_digit, word_line, decimal_digits, decimal_text}

pub low_digit : (d : ℕ) → d < 10 → 48 + d ≡ hex_digit d
low_digit d h = rw (lt-ltb d 10 h)

pub high_digit : (d : ℕ) → 10 ≤ d → 55 + d ≡ hex_digit d
high_digit d h = rw (le-ltb d 10 h)

-- the character of a word's line at an index that was tested
pub line_at : (w k i r : ℕ) → k ≡ i → r ≡ get_or (word_line w) i 0 → r ≡ get_or (word_line w) k 0
line_at w k i r e q = q ∙ ap (λ j. get_or (word_line w) j 0) (sym e)

-- ---- decimal digits

power_some : (k : ℕ) → 1 ≤ 10 ^ k
power_some zero = omega arith
power_some (suc k) = let h = power_some k in rw pow-suc (omega arith)

decimal_is : (k f n : ℕ) → IsDigitCount 10 1 n k → k ≤ f → last_digits 10 k n ≡ decimal_digits f n
unfolding decimal_digits
decimal_is zero f n (a, b, c) h = absurd (omega arith)
decimal_is (suc zero) zero n w h = absurd (omega arith)
decimal_is (suc zero) (suc f) n (a, b, c) h =
    let small : n < 10 = b in
    let same : n % 10 ≡ n = omega arith in
    rw (same, lt-ltb n 10 small)
decimal_is (suc (suc k)) zero n w h = absurd (omega arith)
decimal_is (suc (suc k)) (suc f) n (a, b, c) h =
    let some : 1 ≤ 10 ^ k = power_some k in
    let one : suc (suc k) - 1 ≡ suc k = omega arith in
    let low : 10 ^ suc k ≤ n = rw one at (c (omega arith)) in
    let low10 : 10 ^ k * 10 ≤ n = rw pow-suc at low in
    let high : n < 10 ^ suc k * 10 = rw (pow-suc 10 (suc k)) at b in
    let last : ltb (n % 10) 10 ≡ true = lt-ltb (n % 10) 10 (omega arith) in
    rw (le-ltb n 10 (omega arith), last) (ap (λ (x : List ℕ). x ++ ((48 + n % 10) ∷ [])) (decimal_is (suc k) f (n / 10) (omega arith, omega arith, λ z. let same : suc k - 1 ≡ k = omega arith in rw same (omega arith)) (omega arith)))

-- a number of 64 bits has at most twenty digits
pub twenty : (n k : ℕ) → n < 18446744073709551616 → IsDigitCount 10 1 n k → k ≤ 20
twenty n k h (a, b, c) = go (leb k 20) refl
  where
    go : (t : Bool) → leb k 20 ≡ t → k ≤ 20
    go true e = leb-true k 20 e
    go false e =
        let long : 20 < k = leb-false k 20 e in
        let most : 10 ^ (k - 1) ≤ n = c (omega arith) in
        let less : 10 ^ 20 ≤ 10 ^ (k - 1) = pow-le-pow_right {n = 10} (omega arith) {i = 20} {j = k - 1} (omega arith) in
        absurd (omega arith)

-- ---- the digits are copied

pub copy_more : (d s : List ℕ) (at i : ℕ) (text : List ℕ) → at + i < length d → i < length s → text ≡ paste d at s i
    → set text (at + i) (get_or s i 0) ≡ paste d at s (i + 1)
copy_more d s at i text h l e = rw (add-one, e) (paste-suc d at s i 0 h l)

pub copied : (d s : List ℕ) (at i : ℕ) (text : List ℕ) → i ≡ length s → text ≡ paste d at s i → text ≡ paste d at s (length s)
copied d s at i text e t = rw (← e) t

-- what put_number asks and leaves
module _ (n at k : ℕ) (spelled text : List ℕ) (fits : n < 18446744073709551616) (w : IsDigitCount 10 1 n k) (within : k ≤ length spelled) (room : at + 20 ≤ length text) where
  size : length (take k spelled) ≡ k
  size = length-take-le k spelled within

  pub copy_asks : at + length (take k spelled) ≤ length text
  copy_asks = let few = twenty n k fits w in rw size (omega arith)

  pub number_is : (after : List ℕ) → take k spelled ≡ last_digits 10 k n → after ≡ paste text at (take k spelled) (length (take k spelled))
      → (at + k ≤ at + 20) × (take (at + k) after ≡ take at text ++ decimal_text n) × (drop (at + k) after ≡ drop (at + k) text) × (at ≤ at + k)
  number_is after s e =
      let few : k ≤ 20 = twenty n k fits w in
      let all : take (length (take k spelled)) (take k spelled) ≡ take k spelled = take-length (take k spelled) in
      let front : take (at + k) after ≡ take at text ++ take k (take k spelled) =
      ap (take (at + k)) (rw size at e) ∙ take-paste text at (take k spelled) k (omega arith) (rw size (omega arith)) in
      let behind : drop (at + k) after ≡ drop (at + k) text =
      ap (drop (at + k)) (rw size at e) ∙ drop-paste text at (take k spelled) k (omega arith) (rw size (omega arith)) in
      (omega arith, front ∙ ap (λ x. take at text ++ x) ((rw size at all) ∙ s ∙ decimal_is k 20 n w few), behind, omega arith)
