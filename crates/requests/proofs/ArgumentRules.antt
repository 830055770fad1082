-- One argument more goes into the array of values. Assumes nothing.
use mathlib.Core.Path.{◌≡◌, refl, sym, ap, ◌∙◌}
use mathlib.Core.List.{List, [], ◌∷◌, ◌++◌}
use Prim.Native.Nat.{ℕ, zero, suc, ◌+◌, ◌-◌, ◌/◌, ◌≤◌, ◌<◌}
use native.Mathlib.Numerals.{add-one}
use native.Mathlib.Omega.{arith}
use borrow.Author.Tests.{eq-eqb, ne_eqb}
use lib.ListN.{length, get_or, set, take, drop, replicate, take-append-drop, length-set, length-replicate}
use lib.Seq.{take_all, take-suc, take-suc-set, drop-cons, drop-set-lt}
use Rattle.definitions.specs.Bytes.{word_at, words_of}
use Rattle.definitions.specs.Arithmetic.{truth}
use Rattle.definitions.specs.Image.{type_sort}
use Rattle.definitions.specs.Requests.{answered, argument_values}
use Rattle.tables.specs.Table.{padded}
use Rattle.laws.specs.WordsOfBytes.{length_words_of, get_d_words_of}

pub answer_word : (type v s : ℕ) → s ≡ type_sort type → (s ≡ 1 → ⊥) → v ≡ answered type v
answer_word type v s e h = rw (← e, ne_eqb s 1 h)

pub answer_truth : (type v s r : ℕ) → s ≡ type_sort type → s ≡ 1 → r ≡ truth v → r ≡ answered type v
answer_truth type v s r e h q = rw (← e, eq-eqb s 1 h, q)

pub length_values : (types vs : List ℕ) → length (argument_values types vs) ≡ length vs
unfolding argument_values
length_values types [] = refl
length_values [] (v ∷ vs) = refl
length_values (w ∷ ws) (v ∷ vs) = ap suc (length_values ws vs)

value_at_lem : (types vs : List ℕ) (k : ℕ) → k < length types → k < length vs → get_or (argument_values types vs) k 0 ≡ answered (get_or types k 0) (get_or vs k 0)
unfolding argument_values
value_at_lem types [] k h l = absurd (omega arith)
value_at_lem [] (v ∷ vs) k h l = absurd (omega arith)
value_at_lem (w ∷ ws) (v ∷ vs) zero h l = refl
value_at_lem (w ∷ ws) (v ∷ vs) (suc k) h l = value_at_lem ws vs k (omega arith) (omega arith)

-- the first k values are in the array, and zeros behind them
pub record Filling (types arguments values : List ℕ) (k : ℕ) : Type 0 where
  pub long : length values ≡ 9
  pub front : take k values ≡ take k (argument_values types (words_of arguments))
  pub zeros : drop k values ≡ replicate (9 - k) 0

pub filling_none : (types arguments values : List ℕ) → values ≡ replicate 9 0 → Filling types arguments values 0
filling_none types arguments values e =
    record { long = ap length e ∙ length-replicate {A = ℕ} 9 0; front = refl; zeros = e }

tail_zeros : (l : List ℕ) (n : ℕ) (x : ℕ) (xs : List ℕ) → x ∷ xs ≡ replicate (suc n) 0 → xs ≡ replicate n 0
tail_zeros l n x xs e = cc

pub filling_more : (types arguments values : List ℕ) (k w v : ℕ) → Filling types arguments values k → k < length arguments / 4
    → length arguments / 4 ≤ length types → k < 9 → w ≡ word_at arguments k → v ≡ answered (get_or types k 0) w
    → Filling types arguments (set values k v) (k + 1)
filling_more types arguments values k w v f h t b e r =
    let words : length (words_of arguments) ≡ length arguments / 4 = length_words_of arguments in
    let inside : k < length values = omega (arith, f.long) in
    let some : k < length (argument_values types (words_of arguments)) = rw length_values (omega arith) in
    let value : v ≡ get_or (argument_values types (words_of arguments)) k 0 =
    r ∙ ap (λ (x : ℕ). answered (get_or types k 0) x) (e ∙ sym (get_d_words_of arguments k h))
    ∙ sym (value_at_lem types (words_of arguments) k (omega arith) (omega arith)) in
    let left : 9 - k ≡ suc (9 - suc k) = omega arith in
    let cons : get_or values k 0 ∷ drop (suc k) values ≡ replicate (suc (9 - suc k)) 0 =
    sym (drop-cons values k 0 inside) ∙ f.zeros ∙ ap (λ (n : ℕ). replicate n 0) left in
    record {
      long = length-set values k v ∙ f.long;
      front =
          rw (add-one, take-suc-set values k v inside, take-suc (argument_values types (words_of arguments)) k 0 some, f.front, value);
      zeros = rw (add-one, drop-set-lt (suc k) values k v (omega arith)) (tail_zeros values (9 - suc k) (get_or values k 0) (drop (suc k) values) cons);
    }

pub filling_done : (types arguments values : List ℕ) (k : ℕ) → Filling types arguments values k → k ≡ length arguments / 4
    → values ≡ padded 9 (argument_values types (words_of arguments))
unfolding padded
filling_done types arguments l k f e =
    let size : length (argument_values types (words_of arguments)) ≡ k = length_values types (words_of arguments) ∙ length_words_of arguments ∙ sym e in
    let all : take k l ≡ argument_values types (words_of arguments) =
    f.front ∙ take_all k (argument_values types (words_of arguments)) (omega arith) in
    rw size (sym (take-append-drop k l) ∙ ap (λ (x : List ℕ). x ++ drop k l) all ∙ ap (λ (x : List ℕ). argument_values types (words_of arguments) ++ x) f.zeros)
