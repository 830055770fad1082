-- One word more is read, or written: what the loops of this crate do in a turn.
-- Assumes nothing.
use mathlib.Core.Path.{◌≡◌, refl, sym, ap, ◌∙◌}
use mathlib.Core.List.{List, [], ◌∷◌, ◌++◌}
use Prim.Native.Nat.{ℕ, ◌+◌, ◌*◌, ◌/◌, ◌%◌, ◌^◌, ◌≤◌, ◌<◌}
use native.Mathlib.Numerals.{add-one}
use native.Mathlib.Omega.{arith}
use borrow.Rule.Slice.PartMut.{put_mid}
use Rattle.std.specs.Int.{w32, to_be_bytes}
use lib.ListN.{length, get_or, take, drop, set, length-append, length-drop}
use lib.Seq.{sets, sets-eq, take-suc, take-suc-set, take_at, drop-append-add, drop-drop, length-take-le}
use Rattle.std.proofs.lemmas.List.{append_assoc}
use Rattle.definitions.specs.Bytes.{word_at, words_of, word4, bytes_of}
use Rattle.laws.specs.WordsOfBytes.{length_words_of, get_d_words_of, length_bytes_of, bytes_of_append}

-- the bytes of a word, most significant first, written over four of a slice
pub stores : (l : List ℕ) (at k w : ℕ) (bytes : List ℕ) → at + 4 ≤ length l → w < 2 ^ 32 → k ≡ 4 → bytes ≡ to_be_bytes w32 w
    → put_mid at k l bytes ≡ sets l at (word4 w)
stores l at k w bytes h f n e =
    let top : w / 2 ^ 24 % 256 ≡ w / 2 ^ 24 = omega arith in
    rw (n, e, top, drop-drop 4 at l) (sym (sets-eq (word4 w) l at (omega arith) ∙ append_assoc (take at l) (word4 w) (drop (at + 4) l)))

pub copy_more : (from out : List ℕ) (i w : ℕ) → i < length from → i < length out → w ≡ get_or from i 0 → take i out ≡ take i from
    → take (i + 1) (set out i w) ≡ take (i + 1) from
copy_more from out i w h l e t = rw (add-one, take-suc-set out i w l, take-suc from i 0 h, t, e)

pub read_more : (b out : List ℕ) (i w : ℕ) → i < length b / 4 → i < length out → w ≡ word_at b i → take i out ≡ take i (words_of b)
    → take (i + 1) (set out i w) ≡ take (i + 1) (words_of b)
read_more b out i w h l e t = copy_more (words_of b) out i w (rw length_words_of h) l (e ∙ sym (get_d_words_of b i h)) t

-- stores behind p go into what follows it
sets_append : (p q v : List ℕ) (n : ℕ) → length p ≡ n → length v ≤ length q → sets (p ++ q) n v ≡ p ++ v ++ drop (length v) q
sets_append p q v n e h =
    sets-eq v (p ++ q) n (simp (length-append, e) (omega arith)) ∙ rw (take_at p q n e, ← e, drop-append-add p q (length v))

bytes_of_one : (w : ℕ) → bytes_of (w ∷ []) ≡ word4 w
unfolding bytes_of
bytes_of_one w = refl

module _ (ws base : List ℕ) (i : ℕ) (h : i < length ws) (l : 4 * i + 4 ≤ length base) where
  length_front : length (bytes_of (take i ws)) ≡ 4 * i
  length_front = rw (length_bytes_of, length-take-le i ws (omega arith))

  pub write_more : (out next : List ℕ) → out ≡ bytes_of (take i ws) ++ drop (4 * i) base
      → next ≡ sets out (4 * i) (word4 (get_or ws i 0)) → next ≡ bytes_of (take (i + 1) ws) ++ drop (4 * (i + 1)) base
  write_more out next e s =
      let four : 4 * (i + 1) ≡ 4 * i + 4 = omega arith in
      s ∙ ap (λ (x : List ℕ). sets x (4 * i) (word4 (get_or ws i 0))) e
      ∙ sets_append (bytes_of (take i ws)) (drop (4 * i) base) (word4 (get_or ws i 0)) (4 * i) length_front (simp length-drop (omega arith))
      ∙ rw (four, add-one, take-suc ws i 0 h, bytes_of_append, bytes_of_one, drop-drop 4 (4 * i) base)
