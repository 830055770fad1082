-- What each return of the copying of an expression gives, and what its calls ask. Assumes nothing.
use Prim.Native.Nat.{ℕ, ◌+◌, ◌-◌, ◌≤◌, ◌<◌}
use mathlib.Core.Bool.{true}
use mathlib.Core.List.{List, [], ◌∷◌, ◌++◌}
use mathlib.Core.Path.{◌≡◌, refl, sym, ap, ◌∙◌}
use native.Mathlib.Omega.{arith}
use borrow.Author.Tests.{lt-ltb, le-ltb, leb-true}
use lib.ListN.{get_or}
use Rattle.definitions.specs.Image.{kind_of, payload_of, raw_word, Expression}
use Rattle.definitions.specs.Reading.{Parse, got, read_expression}
use Rattle.definitions.specs.Encoding.{word_with, expression_words}
use Rattle.definitions.specs.Compiling.{renamed, moved}
use Rattle.laws.specs.Parses.{ok, end_of, end_of_lem}
use Rattle.laws.specs.ExpressionInversion.{open_constant, open_raw, open_boolean, open_variable, open_cell, open_unary}
use Rattle.laws.specs.ExpressionInversion.{open_binary, open_select}
use Rattle.image_words.specs.Read.{ExpressionRead, PairRead}
use Rattle.image_words.specs.Parts.{read_cell, read_unary, read_values}
use Rattle.image_words.specs.Kinds.{kind_number}
use Rattle.image_words.specs.declared.kinds.Kind.{Kind}
use Rattle.image_words.specs.declared.kinds.Kind.TheVariants.{Constant, Boolean, Cell, Unary}
use mathlib.Core.Logic.{◌⊎◌, inl, inr}
use Rattle.writer.specs.Writing.{Output, write, writes}
use Rattle.writer.specs.Laws.{writes_on, writes_one, writes_app}
use Rattle.copying.specs.Copy.{Copied, spot, copied, copied_two}
use Rattle.copying.specs.Laws.{copied_at, copied_end, copied_got, two_got, word_then}

pub renumber_low : (first x : ℕ) → x < first → x ≡ renamed first x
renumber_low first x h = rw (lt-ltb _ _ h)

pub renumber_high : (first x : ℕ) → first ≤ x → x + 1 ≡ renamed first x
renumber_high first x h = rw (le-ltb _ _ h)

-- a word is its kind and its payload
word_is : (w k : ℕ) → kind_of w ≡ k → w ≡ word_with k (payload_of w)
word_is w k e = omega arith

pub copy_one : (n p : ℕ) (t : List ℕ) (z : Output) → ◌≡◌ {A = Output} (p, t) z → ◌≡◌ {A = Copied} (n, (p, t)) (spot n z)
copy_one n p t z e = ap (λ (y : Output). spot n y) e

module _ (first l : ℕ) (image : List ℕ) (at : ℕ) (t : ok (read_expression l image at) ≡ true) (o : ℕ) (out : List ℕ) where
  module _ (r q : ℕ) (t1 : List ℕ) (e : ◌≡◌ {A = Copied} (r, (q, t1)) (spot (at + 1) (write o out (get_or image at 0)))) where
    pub copy_constant : kind_of (get_or image at 0) ≡ 7 → ◌≡◌ {A = Copied} (r, (q, t1)) (copied first o out (read_expression l image at))
    unfolding copied moved expression_words
    copy_constant h =
        let b : payload_of (get_or image at 0) < 268435456 = omega arith in
        rw (open_constant l image at t h, lt-ltb _ _ b, ← word_is (get_or image at 0) 7 h, writes_one o out (get_or image at 0)) e

    pub copy_boolean : kind_of (get_or image at 0) ≡ 9 → ◌≡◌ {A = Copied} (r, (q, t1)) (copied first o out (read_expression l image at))
    unfolding copied moved expression_words
    copy_boolean h =
        rw (open_boolean l image at t h, ← word_is (get_or image at 0) 9 h, writes_one o out (get_or image at 0)) e

  module _ (p : ℕ) (t1 : List ℕ) where
    pub copy_variable : (x y w : ℕ) → kind_of (get_or image at 0) ≡ 10 → x ≡ payload_of (get_or image at 0) → y ≡ renamed first x → w ≡ word_with 10 y
        → ◌≡◌ {A = Output} (p, t1) (write o out w)
        → ◌≡◌ {A = Copied} (at + 1, (p, t1)) (copied first o out (read_expression l image at))
    unfolding copied moved expression_words
    copy_variable x y w h hx hy hw e =
        let v : word_with 10 (renamed first (payload_of (get_or image at 0))) ≡ w = sym (hw ∙ ap (λ (z : ℕ). word_with 10 z) (hy ∙ ap (λ (z : ℕ). renamed first z) hx)) in
        rw (open_variable l image at t h, v, writes_one o out w) (copy_one (at + 1) p t1 (write o out w) e)

    pub copy_raw : (r q : ℕ) (t2 : List ℕ) → kind_of (get_or image at 0) ≡ 8 → ◌≡◌ {A = Output} (p, t1) (write o out (word_with 8 0))
        → ◌≡◌ {A = Copied} (r, (q, t2)) (spot (at + 1 + 1) (write p t1 (get_or image (at + 1) 0)))
        → ◌≡◌ {A = Copied} (r, (q, t2)) (copied first o out (read_expression l image at))
    unfolding copied moved expression_words raw_word
    copy_raw r q t2 h e f =
        let (b, g, u) = open_raw l image at t h in
        let c : 268435456 ≤ get_or image (at + 1) 0 = leb-true _ _ g in
        f ∙ ap (λ (z : Output). spot (at + 1 + 1) (write z.0 z.1 (get_or image (at + 1) 0))) e
        ∙ rw (u, le-ltb _ _ c, writes_on o out (word_with 8 0) (get_or image (at + 1) 0 ∷ []), writes_one _ _ (get_or image (at + 1) 0))

    module _ (r q : ℕ) (t2 : List ℕ) (e : ◌≡◌ {A = Output} (p, t1) (write o out (get_or image at 0))) where
      -- an operand behind a word
      behind_word : (x : Parse Expression) → ◌≡◌ {A = Copied} (r, (q, t2)) (copied first p t1 x) → (i : Expression) (n : ℕ) → x ≡ got i n
          → ◌≡◌ {A = Copied} (r, (q, t2)) (spot n (writes o out (get_or image at 0 ∷ expression_words (moved first i))))
      behind_word x h i n u =
          h ∙ ap (λ (z : Output). copied first z.0 z.1 x) e ∙ copied_got first _ _ x i n u
          ∙ word_then n o out (get_or image at 0) (expression_words (moved first i))

      pub copy_cell : kind_of (get_or image at 0) ≡ 11 → ◌≡◌ {A = Copied} (r, (q, t2)) (copied first p t1 (read_expression (l - 1) image (at + 1)))
          → ◌≡◌ {A = Copied} (r, (q, t2)) (copied first o out (read_expression l image at))
      unfolding moved expression_words
      copy_cell d h =
          let (i, n, u, v) = open_cell l image at t d in
          behind_word _ h i n u ∙ ap (λ w. spot n (writes o out (w ∷ expression_words (moved first i)))) (word_is (get_or image at 0) 11 d)
          ∙ sym (copied_got first o out _ _ n v)

      pub copy_unary : kind_of (get_or image at 0) ≡ 12 → ◌≡◌ {A = Copied} (r, (q, t2)) (copied first p t1 (read_expression (l - 1) image (at + 1)))
          → ◌≡◌ {A = Copied} (r, (q, t2)) (copied first o out (read_expression l image at))
      unfolding moved expression_words
      copy_unary d h =
          let (i, n, u, v) = open_unary l image at t d in
          behind_word _ h i n u ∙ ap (λ w. spot n (writes o out (w ∷ expression_words (moved first i)))) (word_is (get_or image at 0) 12 d)
          ∙ sym (copied_got first o out _ _ n v)

      pub copy_binary : kind_of (get_or image at 0) ≡ 13
          → ◌≡◌ {A = Copied} (r, (q, t2))
          (copied_two first p t1 (read_expression (l - 1) image (at + 1)) (read_expression (l - 1) image (end_of (read_expression (l - 1) image (at + 1)))))
          → ◌≡◌ {A = Copied} (r, (q, t2)) (copied first o out (read_expression l image at))
      unfolding moved expression_words
      copy_binary d h =
          let (a, n, b, m, u, s, v) = open_binary l image at t d in
          h ∙ ap (λ (z : Output). copied_two first z.0 z.1 (read_expression (l - 1) image (at + 1))
          (read_expression (l - 1) image (end_of (read_expression (l - 1) image (at + 1))))) e
          ∙ two_got first _ _ _ _ a b n m u (ap (λ z. read_expression (l - 1) image z) (end_of_lem _ a n u) ∙ s)
          ∙ word_then m o out (get_or image at 0) (expression_words (moved first a) ++ expression_words (moved first b))
          ∙ ap (λ w. spot m (writes o out (w ∷ (expression_words (moved first a) ++ expression_words (moved first b))))) (word_is (get_or image at 0) 13 d)
          ∙ sym (copied_got first o out _ _ m v)

module _ (first l : ℕ) (image : List ℕ) (at : ℕ) (t : ok (read_expression l image at) ≡ true) (k : kind_of (get_or image at 0) ≡ 14) (o : ℕ) (out : List ℕ)
    (p : ℕ) (t1 : List ℕ) (c q : ℕ) (t2 : List ℕ)
    (e : ◌≡◌ {A = Output} (p, t1) (write o out (word_with 14 0)))
    (h : ◌≡◌ {A = Copied} (c, (q, t2)) (copied first p t1 (read_expression (l - 1) image (at + 1)))) where
  pub select_values : PairRead (l - 1) image c
  select_values = read_values l image at t 14 (sym k) refl c (copied_end first p t1 _ c q t2 h)

  pub copy_select : (r s : ℕ) (t3 : List ℕ)
      → ◌≡◌ {A = Copied} (r, (s, t3)) (copied_two first q t2 (read_expression (l - 1) image c) (read_expression (l - 1) image (end_of (read_expression (l - 1) image c))))
      → ◌≡◌ {A = Copied} (r, (s, t3)) (copied first o out (read_expression l image at))
  unfolding moved expression_words
  copy_select r s t3 g =
      let (d, n, a, m, b, v, i, j, u, w) = open_select l image at t k in
      let f : ◌≡◌ {A = Copied} (c, (q, t2)) (spot n (writes o out (word_with 14 0 ∷ expression_words (moved first d)))) =
      h ∙ ap (λ (z : Output). copied first z.0 z.1 (read_expression (l - 1) image (at + 1))) e ∙ copied_got first _ _ _ d n i
      ∙ word_then n o out (word_with 14 0) (expression_words (moved first d)) in
      g ∙ ap (λ (z : Copied). copied_two first z.1.0 z.1.1 (read_expression (l - 1) image z.0)
      (read_expression (l - 1) image (end_of (read_expression (l - 1) image z.0)))) f
      ∙ two_got first _ _ _ _ a b m v j (ap (λ z. read_expression (l - 1) image z) (end_of_lem _ a m j) ∙ u)
      ∙ ap (λ (z : Output). spot v z)
      (sym (writes_app (word_with 14 0 ∷ expression_words (moved first d)) (expression_words (moved first a) ++ expression_words (moved first b)) o out))
      ∙ sym (copied_got first o out _ _ v w)

module _ (first l : ℕ) (image : List ℕ) (at o : ℕ) (out : List ℕ) (e p : ℕ) (t1 : List ℕ)
    (h : ◌≡◌ {A = Copied} (e, (p, t1)) (copied first o out (read_expression l image at))) where
  pub second_read : ExpressionRead l image (end_of (read_expression l image at)) → ExpressionRead l image e
  second_read f = rw (copied_end first o out _ e p t1 h) f

  pub copy_two : (r q : ℕ) (t2 : List ℕ) → ◌≡◌ {A = Copied} (r, (q, t2)) (copied first p t1 (read_expression l image e))
      → ◌≡◌ {A = Copied} (r, (q, t2)) (copied_two first o out (read_expression l image at) (read_expression l image (end_of (read_expression l image at))))
  unfolding copied_two
  copy_two r q t2 g =
      g ∙ ap (λ (z : Copied). copied first z.1.0 z.1.1 (read_expression l image z.0)) h ∙ rw (copied_at first o out (read_expression l image at))

-- kinds that are copied alike
module _ (l : ℕ) (image : List ℕ) (at : ℕ) (t : ok (read_expression l image at) ≡ true) (k : Kind) (hk : kind_of (get_or image at 0) ≡ kind_number k) where
  pub copy_alike : k ≡ Constant ⊎ k ≡ Boolean → (first o : ℕ) (out : List ℕ) (r q : ℕ) (t1 : List ℕ)
      → ◌≡◌ {A = Copied} (r, (q, t1)) (spot (at + 1) (write o out (get_or image at 0)))
      → ◌≡◌ {A = Copied} (r, (q, t1)) (copied first o out (read_expression l image at))
  copy_alike (inl h) first o out r q t1 e = copy_constant first l image at t o out r q t1 e (hk ∙ ap kind_number h)
  copy_alike (inr h) first o out r q t1 e = copy_boolean first l image at t o out r q t1 e (hk ∙ ap kind_number h)

  pub read_operand : k ≡ Cell ⊎ k ≡ Unary → ExpressionRead (l - 1) image (at + 1)
  read_operand (inl h) = read_cell l image at t _ refl (hk ∙ ap kind_number h)
  read_operand (inr h) = read_unary l image at t _ refl (hk ∙ ap kind_number h)

  pub copy_operand : k ≡ Cell ⊎ k ≡ Unary → (first o : ℕ) (out : List ℕ) (p : ℕ) (t1 : List ℕ) (r q : ℕ) (t2 : List ℕ)
      → ◌≡◌ {A = Output} (p, t1) (write o out (get_or image at 0))
      → ◌≡◌ {A = Copied} (r, (q, t2)) (copied first p t1 (read_expression (l - 1) image (at + 1)))
      → ◌≡◌ {A = Copied} (r, (q, t2)) (copied first o out (read_expression l image at))
  copy_operand (inl h) first o out p t1 r q t2 e = copy_cell first l image at t o out p t1 r q t2 e (hk ∙ ap kind_number h)
  copy_operand (inr h) first o out p t1 r q t2 e = copy_unary first l image at t o out p t1 r q t2 e (hk ∙ ap kind_number h)

pub ruleset copy·rules = (copy_raw, copy_variable, copy_binary)
