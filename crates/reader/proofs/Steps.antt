-- What the definition reads, said step by step as the code does: a step that is refused ends the whole, else the next begins where it ended.
-- Assumes nothing.
use mathlib.Core.Path.{◌≡◌, refl, sym, ap, ◌∙◌}
use mathlib.Core.Bool.{Bool, true, false}
use mathlib.Core.List.{List}
use Prim.Native.Nat.{ℕ, suc, ◌+◌, ◌-◌, ◌<◌}
use native.Mathlib.Omega.{arith}
use borrow.Author.Tests.{leb-false}
use lib.Dec.{leb}
use lib.ListN.{length, get_or}
use Rattle.std.specs.Prelude.{Result, Ok, Err, is_err}
use Rattle.definitions.specs.Choice.{pick}
use Rattle.definitions.specs.declared.Fault.{Fault}
use Rattle.definitions.specs.Faults.{fault}
use Rattle.definitions.specs.Reading.{Parse, got, refused, and_then, on_word}
use Rattle.laws.specs.Tests.{false_true}
use Rattle.laws.specs.Parses.{on_word_lem}
use Rattle.reader.specs.AnswerLaws.{impossible}
use Rattle.reader.specs.Answers.{answer, word_at, ensured}

infixl 10 ◌>>=◌
abbrev pub ◌>>=◌ : {A B : Type 0} → Result A Fault → (A → Result B Fault) → Result B Fault
Ok a >>= f = f a
Err e >>= f = Err e

-- what is left of a count, one turn further
pub one_more : (n k : ℕ) → k < n → n - k ≡ suc (n - (k + 1))
one_more n k h = omega arith

pub none_passed : (n : ℕ) → n - 0 ≡ n
none_passed n = omega arith

pub answer_then : {A B : Type 0} (x : Parse A) (f : A → ℕ → Parse B) (g : ℕ → Result ℕ Fault) → ((a : A) (n : ℕ) → answer (f a n) ≡ g n)
    → answer (and_then x f) ≡ (answer x >>= g)
unfolding answer
answer_then (got a n) f g h = h a n
answer_then (refused n p) f g h = refl

pub answer_last : {A B : Type 0} (x : Parse A) (make : A → B) → answer (and_then x (λ a n. got (make a) n)) ≡ answer x
unfolding answer
answer_last (got a n) make = refl
answer_last (refused n p) make = refl

pub answer_two : {A B C : Type 0} (x : Parse A) (f : ℕ → Parse B) (make : A → B → C)
    → answer (and_then x (λ a n. and_then (f n) (λ b m. got (make a b) m))) ≡ (answer x >>= λ n. answer (f n))
answer_two x f make = answer_then _ _ _ (λ a n. answer_last (f n) (λ b. make a b))

pub answer_three : {A B C D : Type 0} (x : Parse A) (f : ℕ → Parse B) (g : ℕ → Parse C) (make : A → B → C → D)
    → answer (and_then x (λ a n. and_then (f n) (λ b m. and_then (g m) (λ c o. got (make a b c) o))))
    ≡ (answer x >>= λ n. answer (f n) >>= λ m. answer (g m))
answer_three x f g make = answer_then _ _ _ (λ a n. answer_two (f n) g (λ b c. make a b c))

pub answer_word : {A : Type 0} (image : List ℕ) (at : ℕ) (good : ℕ → Bool) (f : ℕ → Parse A)
    → answer (on_word image at good f) ≡ (word_at image at >>= λ w. ensured (good w) 2 at >>= λ _. answer (f w))
unfolding answer word_at
answer_word {A} image at good f = ends (leb (length image) at)
  where
    tested : (g : Bool) (x : Parse A) → answer (pick g x (refused 2 at)) ≡ (ensured g 2 at >>= λ _. answer x)
    tested true x = refl
    tested false x = refl

    ends : (b : Bool)
        → answer (pick b (refused 3 (length image)) (pick (good (get_or image at 0)) (f (get_or image at 0)) (refused 2 at)))
        ≡ (pick b (Err (fault 3 (length image))) (Ok (get_or image at 0)) >>= λ w. ensured (good w) 2 at >>= λ _. answer (f w))
    ends true = refl
    ends false = tested (good (get_or image at 0)) (f (get_or image at 0))

-- what was refused was not read
pub not_read : {A : Type 0} {C : Type 0} (x : Parse A) (a : A) (n : ℕ) → is_err (answer x) ≡ true → x ≡ got a n → C
unfolding answer
not_read x a n e g = false_true (sym (ap (λ z. is_err (answer z)) g) ∙ e)

-- a word that was read
pub word_read : (image : List ℕ) (at w : ℕ) → Ok w ≡ word_at image at → (at < length image) × (w ≡ get_or image at 0)
unfolding word_at
word_read image at w e = go (leb (length image) at) refl e
  where
    go : (b : Bool) → leb (length image) at ≡ b → Ok w ≡ pick b (Err (fault 3 (length image))) (Ok (get_or image at 0))
        → (at < length image) × (w ≡ get_or image at 0)
    go true h q = impossible q
    go false h q = (leb-false _ _ h, cc)

pub on_word_read : {A : Type 0} (image : List ℕ) (at : ℕ) (good : ℕ → Bool) (f : ℕ → Parse A) (w : ℕ) → Ok w ≡ word_at image at → good w ≡ true
    → on_word image at good f ≡ f w
on_word_read image at good f w e g =
    let (h, q) = word_read image at w e in on_word_lem image at good f h (ap good (sym q) ∙ g) ∙ ap f (sym q)
