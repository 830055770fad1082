-- What `read_arrays` reads, step by step, and what its loop keeps of the table. Assumes nothing.
use mathlib.Core.Path.{◌≡◌, refl, sym, ap, ◌∙◌}
use mathlib.Core.Bool.{true}
use mathlib.Core.List.{List, [], ◌∷◌, ◌++◌, append_assoc, append-nil}
use Prim.Native.Nat.{ℕ, ◌+◌, ◌-◌, ◌≤◌, ◌<◌}
use native.Mathlib.Omega.{arith}
use lib.ListN.{length, set, length-append}
use Rattle.std.specs.Prelude.{Ok, is_err}
use Rattle.definitions.specs.Image.{array_word, array_length, cell_count}
use Rattle.definitions.specs.Reading.{Parse, got, and_then, read_arrays}
use Rattle.laws.specs.Parses.{got_same}
use Rattle.laws.specs.WordTests.{array_limits}
use Rattle.tables.specs.Table.{table_of}
use Rattle.tables.specs.Filling.{table_array}
use Rattle.reader.specs.Answers.{answer, word_at, ensured}
use Rattle.reader.specs.Left.{ArraysLeft}
use Rattle.reader.proofs.Steps.{◌>>=◌, answer_last, answer_word, one_more, not_read, on_word_read}

pub arrays_none : (n cells : ℕ) (image : List ℕ) (at : ℕ) → n ≡ 0 → answer (read_arrays n cells image at) ≡ Ok at
unfolding read_arrays answer
arrays_none n cells image at e = rw e

pub arrays_more : (n k cells : ℕ) (image : List ℕ) (at : ℕ) → k < n
    → answer (read_arrays (n - k) cells image at)
    ≡ (word_at image at >>= λ w. ensured (array_word cells w) 2 at >>= λ _. answer (read_arrays (n - (k + 1)) (cells + array_length w) image (at + 1)))
unfolding read_arrays
arrays_more n k cells image at h = rw (one_more n k h) (simp (answer_word, answer_last))

-- the cells of an array that may stand there have room
pub array_fits : (cells w : ℕ) → array_word cells w ≡ true → cells + array_length w ≤ 1024
array_fits cells w h = (array_limits cells w h).4

-- a refusal leaves nothing to say
pub arrays_refused : (x : Parse (List ℕ)) (table : List ℕ) → is_err (answer x) ≡ true → ArraysLeft x table
unfolding ArraysLeft
arrays_refused x table e ws n g = not_read x ws n e g

-- What the loop over the array words keeps: those read so far are in the table, and the rest is read behind them.
pub record Arrays (count : ℕ) (image : List ℕ) (first : ℕ) (table : List ℕ) (k cells at : ℕ) : Type 0 where
  pub read : List ℕ
  pub passed : length read ≡ k
  pub filled : table ≡ table_of read []
  pub sum : cells ≡ cell_count read
  pub left : (ws : List ℕ) (n : ℕ) → read_arrays (count - k) cells image at ≡ got ws n → read_arrays count 0 image first ≡ got (read ++ ws) n

pub arrays_begin : (count : ℕ) (image table : List ℕ) (at : ℕ) → table ≡ table_of [] [] → Arrays count image at table 0 0 at
unfolding cell_count
arrays_begin count image table at t =
    let e : count - 0 ≡ count = omega arith in
    record {
      read = [];
      passed = refl;
      filled = t;
      sum = refl;
      left = λ ws n r. ap (λ z. read_arrays z 0 image at) (sym e) ∙ r;
    }

cells_more : (ws : List ℕ) (w : ℕ) → cell_count (ws ++ (w ∷ [])) ≡ cell_count ws + array_length w
unfolding cell_count
cells_more [] w = omega arith
cells_more (v ∷ ws) w = let e = cells_more ws w in omega arith

module _ (count : ℕ) (image : List ℕ) (first : ℕ) (table : List ℕ) (k cells at : ℕ) (few : count ≤ 16) (s : Arrays count image first table k cells at) where
  pub arrays_kept : k ≡ count → ArraysLeft (read_arrays count 0 image first) table
  unfolding ArraysLeft read_arrays
  arrays_kept h ws n r =
      let none : count - k ≡ 0 = omega arith in
      let all = s.left [] at (rw none) in
      let (e, _) = got_same (read_arrays count 0 image first) (s.read ++ []) ws at n all r in
      let same : ws ≡ s.read = sym e ∙ append-nil s.read in
      let p = s.passed in
      (rw same (omega arith), rw same s.filled)

  module _ (h : k < count) (w : ℕ) (e : Ok w ≡ word_at image at) (good : array_word cells w ≡ true) where
    turn : read_arrays (count - k) cells image at ≡ and_then (read_arrays (count - (k + 1)) (cells + array_length w) image (at + 1)) (λ ws m. got (w ∷ ws) m)
    unfolding read_arrays
    turn = rw (one_more count k h) (on_word_read image at (λ w. array_word cells w)
        (λ w. and_then (read_arrays (count - (k + 1)) (cells + array_length w) image (at + 1)) (λ ws m. got (w ∷ ws) m)) w e good)

    pub arrays_step : (table' : List ℕ) (c : ℕ) → c ≡ array_length w → table' ≡ set (set (set table k w) (16 + k) cells) 32 (k + 1)
        → Arrays count image first table' (k + 1) (cells + c) (at + 1)
    arrays_step table' c hc st =
        let p = s.passed in
        let z = s.sum in
        let v = cells_more s.read w in
        rw hc (record {
          read = s.read ++ (w ∷ []);
          passed = length-append s.read (w ∷ []) ∙ ap (λ z. z + 1) s.passed;
          filled = st ∙ ap (λ (y : List ℕ). set (set (set y k w) (16 + k) cells) 32 (k + 1)) s.filled
              ∙ table_array s.read [] k cells w (sym s.passed) s.sum (omega arith);
          sum = omega arith;
          left = λ ws n f.
              s.left (w ∷ ws) n (turn ∙ ap (λ z. and_then z (λ us o. got (w ∷ us) o)) f)
              ∙ ap (λ z. got z n) (sym (append_assoc s.read (w ∷ []) ws));
        })

pub ruleset arrays_rules = (arrays_none, arrays_more, array_fits, arrays_refused)
