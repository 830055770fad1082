-- Expressions in a row, passed over without a look at what they compute. Assumes nothing.
use Rattle.std.specs.Prelude.{ℕ, zero, suc, ◌+◌, ◌-◌, ◌≤◌, ◌<◌, true, List, [], ◌∷◌, ◌≡◌, refl, eqb, leb, length, get_or}
use Rattle.std.proofs.Common.{ap, ◌∙◌, add-zero, add-one, arith}
use Rattle.definitions.specs.Choice.{pick}
use Rattle.definitions.specs.Image.{kind_of, Expression}
use Rattle.definitions.specs.Reading.{got, read_expression}
use Rattle.laws.specs.Parses.{ok, ok_of, end_of, end_of_lem, got_ok, got_same}
use Rattle.laws.specs.Levels.{grow_got, grow_expression}
use Rattle.laws.specs.WordTests.{kinds}
use Rattle.laws.specs.Places.{expression_after, expression_within}
use Rattle.laws.specs.ExpressionInversion.{open_expression, open_constant, open_raw, open_boolean, open_variable}
use Rattle.laws.specs.ExpressionInversion.{open_cell, open_unary, open_binary, open_select}
use Rattle.image_words.specs.Read.{PairRead, arguments_at}
use Rattle.image_words.specs.Parts.{expression_got, pair_got, kind_there}
use Rattle.image_words.specs.StatementParts.{no_argument, first_argument}

-- the number of operands of an expression, and of its own words, by its kind
abbrev pub operand_count : ℕ → ℕ
operand_count k = pick (leb k 10) 0 (pick (leb k 12) 1 (pick (eqb k 13) 2 3))

abbrev pub word_count : ℕ → ℕ
word_count k = pick (eqb k 8) 2 1

-- n expressions in a row stand from one place to another, each read with some number of levels left
pub data Row (image : List ℕ) : ℕ → ℕ → ℕ → Type 0 where
  none : {a : ℕ} → Row image 0 a a
  more : {n a b : ℕ} (l : ℕ) (e : Expression) (m : ℕ) → read_expression l image a ≡ got e m → Row image n m b → Row image (suc n) a b

-- some place is behind them
unfoldable pub Skippable : List ℕ → ℕ → ℕ → Type 0
Skippable image n at = (b : ℕ) × Row image n at b

pub one_expression : (l l' : ℕ) (image : List ℕ) (at : ℕ) (e f : Expression) (n m : ℕ) → read_expression l image at ≡ got e n
    → read_expression l' image at ≡ got f m → n ≡ m
one_expression l l' image at e f n m r q =
    (got_same (read_expression (l + l') image at) e f n m (grow_got (grow_expression image l (l + l') (omega arith) at) r)
    (grow_got (grow_expression image l' (l + l') (omega arith) at) q)).1

pub row_end : {image : List ℕ} {n a b c : ℕ} → Row image n a b → Row image n a c → b ≡ c
row_end none none = refl
row_end {image} {n} {a} (more l e m q r) (more l' f o p s) = row_end r (rw (one_expression l' l image a f e o m p q) at s)

-- the first of them
row_first : {image : List ℕ} {n a b : ℕ} → Row image n a b → 0 < n
    → (l : ℕ) × (e : Expression) × (m : ℕ) × (read_expression l image a ≡ got e m) × Row image (n - 1) m b
row_first none h = absurd (omega arith)
row_first (more {n} l e m q r) h = let z : suc n - 1 ≡ n = omega arith in (l, e, m, q, rw z r)

pub row_within : {image : List ℕ} {n a b : ℕ} → Row image n a b → 0 < n → a < length image
row_within {image} {n} {a} r h =
    let (l, e, m, q, s) = row_first r h in (open_expression l image a (ok_of _ e m q)).1

-- its word has the kind of an expression
pub row_kind : {image : List ℕ} {n a b : ℕ} → Row image n a b → 0 < n → (w : ℕ) → w ≡ get_or image a 0 → (6 < kind_of w) × (kind_of w < 15)
row_kind {image} {n} {a} r h w e =
    let (l, x, m, q, s) = row_first r h in kind_there l image a w (expression_got l image a x m q) e

-- each has a word, and the last ends within the image
pub row_bound : {image : List ℕ} {n a b : ℕ} → Row image n a b → (n + a ≤ b) × (0 < n → b ≤ length image)
row_bound none = (omega arith, λ h. absurd (omega arith))
row_bound {image} {n} {a} {b} (more l e m q r) =
    let some = expression_after l image a e m q in
    let end = expression_within l image a e m q in
    let (few, last) = row_bound r in
    (omega arith, λ h. rest r end last)
  where
    rest : {k m : ℕ} → Row image k m b → m ≤ length image → (0 < k → b ≤ length image) → b ≤ length image
    rest none d f = d
    rest (more l e m q r) d f = f (omega arith)

-- an expression with n after it: its operands come in its place
module _ (image : List ℕ) (l a : ℕ) (e : Expression) (m : ℕ) (q : read_expression l image a ≡ got e m) (n b : ℕ) (r : Row image n m b) where
  was_read : ok (read_expression l image a) ≡ true
  was_read = ok_of _ e m q

  -- what stands behind it, where its end is known
  behind : (f : Expression) (o : ℕ) → read_expression l image a ≡ got f o → Row image n o b
  behind f o s = rw (got_same (read_expression l image a) e f m o q s).1 at r

  open_kind : (k : ℕ) → kind_of (get_or image a 0) ≡ k → Row image (n + operand_count k) (a + word_count k) b
      → Row image (n + operand_count (kind_of (get_or image a 0))) (a + word_count (kind_of (get_or image a 0))) b
  open_kind k h x = rw h x

  row_open : Row image (n + operand_count (kind_of (get_or image a 0))) (a + word_count (kind_of (get_or image a 0))) b
  row_open =
      kinds (get_or image a 0) (open_expression l image a was_read).2
      (λ h. open_kind 7 h (rw (add-zero n) (behind _ _ (open_constant l image a was_read h))))
      (λ h. let z : a + 2 ≡ a + 1 + 1 = omega arith in open_kind 8 h (rw (add-zero n, z) (behind _ _ (open_raw l image a was_read h).2)))
      (λ h. open_kind 9 h (rw (add-zero n) (behind _ _ (open_boolean l image a was_read h))))
      (λ h. open_kind 10 h (rw (add-zero n) (behind _ _ (open_variable l image a was_read h))))
      (λ h. let (i, o, s, t) = open_cell l image a was_read h in open_kind 11 h (rw (add-one n) (more (l - 1) i o s (behind _ o t))))
      (λ h. let (i, o, s, t) = open_unary l image a was_read h in open_kind 12 h (rw (add-one n) (more (l - 1) i o s (behind _ o t))))
      (λ h. let (i, o, f, p, s, u, t) = open_binary l image a was_read h in
      let z : n + 2 ≡ suc (suc n) = omega arith in
      open_kind 13 h (rw z (more (l - 1) i o s (more (l - 1) f p u (behind _ p t)))))
      (λ h. let (c, o, f, p, g, v, s, u, w, t) = open_select l image a was_read h in
      let z : n + 3 ≡ suc (suc (suc n)) = omega arith in
      open_kind 14 h (rw z (more (l - 1) c o s (more (l - 1) f p u (more (l - 1) g v w (behind _ v t))))))

-- one word more is passed over: k is its kind
pub row_next : (image : List ℕ) (n a b k : ℕ) → Row image n a b → 0 < n → k ≡ kind_of (get_or image a 0)
    → Row image (n - 1 + operand_count k) (a + word_count k) b
row_next image n a b k r h hk =
    let (l, e, m, q, s) = row_first r h in rw hk (row_open image l a e m q (n - 1) b s)

-- ---- what was read stands in a row

pub row_expression : (l : ℕ) (image : List ℕ) (at : ℕ) → ok (read_expression l image at) ≡ true → Row image 1 at (end_of (read_expression l image at))
row_expression l image at t =
    let (e, n, q) = got_ok (read_expression l image at) t in rw (end_of_lem _ e n q) (more l e n q none)

pub row_pair : (l : ℕ) (image : List ℕ) (at : ℕ) → PairRead l image at
    → Row image 2 at (end_of (read_expression l image (end_of (read_expression l image at))))
row_pair l image at p =
    let (e, n, q) = got_ok (read_expression l image at) p.first.read in
    let same : end_of (read_expression l image at) ≡ n = end_of_lem _ e n q in
    let x = row_expression l image (end_of (read_expression l image at)) p.second.read in
    rw same (more l e n q (rw same at x))

pub row_arguments : (n l : ℕ) (image : List ℕ) (at : ℕ) → ok (arguments_at n l image at) ≡ true → Row image n at (end_of (arguments_at n l image at))
row_arguments zero l image at t = rw (end_of_lem _ [] at (no_argument l image at)) none
row_arguments (suc n) l image at t = go (first_argument (suc n) l image at t (omega arith)) (λ m d. row_arguments n l image m d)
  where
    go : (e : Expression) × (m : ℕ) × (es : List Expression) × (o : ℕ) × (read_expression l image at ≡ got e m)
        × (arguments_at (suc n - 1) l image m ≡ got es o) × (arguments_at (suc n) l image at ≡ got (e ∷ es) o)
        → ((m : ℕ) → ok (arguments_at n l image m) ≡ true → Row image n m (end_of (arguments_at n l image m)))
        → Row image (suc n) at (end_of (arguments_at (suc n) l image at))
    go (e, m, es, o, q, r, s) again =
        let z : suc n - 1 ≡ n = omega arith in
        let p : arguments_at n l image m ≡ got es o = rw z at r in
        rw (end_of_lem _ (e ∷ es) o s) (more l e m q (rw (end_of_lem _ es o p) at (again m (ok_of _ es o p))))

-- ---- what is asked of a row, and told of its end

pub skip_expression : (l : ℕ) (image : List ℕ) (at : ℕ) → ok (read_expression l image at) ≡ true → Skippable image 1 at
unfolding Skippable
skip_expression l image at t = (end_of (read_expression l image at), row_expression l image at t)

pub skip_pair : (l : ℕ) (image : List ℕ) (at : ℕ) → PairRead l image at → Skippable image 2 at
unfolding Skippable
skip_pair l image at p = (_, row_pair l image at p)

pub skip_arguments : (n l : ℕ) (image : List ℕ) (at : ℕ) → ok (arguments_at n l image at) ≡ true → Skippable image n at
unfolding Skippable
skip_arguments n l image at t = (end_of (arguments_at n l image at), row_arguments n l image at t)

pub skipped_expression : (l : ℕ) (image : List ℕ) (at r : ℕ) → ok (read_expression l image at) ≡ true → Row image 1 at r
    → r ≡ end_of (read_expression l image at)
skipped_expression l image at r t x = row_end x (row_expression l image at t)

pub skipped_pair : (l : ℕ) (image : List ℕ) (at r : ℕ) → PairRead l image at → Row image 2 at r
    → r ≡ end_of (read_expression l image (end_of (read_expression l image at)))
skipped_pair l image at r p x = row_end x (row_pair l image at p)

pub skipped_two : (l : ℕ) (image : List ℕ) (at r : ℕ) (e : Expression) (n : ℕ) (f : Expression) (m : ℕ) → read_expression l image at ≡ got e n
    → read_expression l image n ≡ got f m → Row image 2 at r → r ≡ m
skipped_two l image at r e n f m q s h =
    skipped_pair l image at r (pair_got l image at e f n m q s) h
    ∙ ap (λ z. end_of (read_expression l image z)) (end_of_lem _ e n q) ∙ end_of_lem _ f m s

pub skipped_arguments : (n l : ℕ) (image : List ℕ) (at r : ℕ) → ok (arguments_at n l image at) ≡ true → Row image n at r
    → r ≡ end_of (arguments_at n l image at)
skipped_arguments n l image at r t x = row_end x (row_arguments n l image at t)
