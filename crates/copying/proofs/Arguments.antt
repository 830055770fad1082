-- The rules of the loop that copies the values of a call. Assumes nothing.
use Prim.Native.Nat.{ℕ, ◌+◌, ◌-◌, ◌≤◌, ◌<◌}
use mathlib.Core.Bool.{true}
use mathlib.Core.List.{List, [], ◌∷◌, flat_map}
use mathlib.Core.Path.{◌≡◌, sym, ap, ◌∙◌}
use native.Mathlib.Omega.{arith}
use Rattle.definitions.specs.Reading.{read_expression}
use Rattle.definitions.specs.Encoding.{expression_words, argument_words}
use Rattle.definitions.specs.Compiling.{moved, moved_all}
use Rattle.laws.specs.Parses.{ok}
use Rattle.writer.specs.Writing.{Output}
use Rattle.writer.specs.Laws.{writes_nil, writes_app}
use Rattle.image_words.specs.Read.{ExpressionRead, arguments_at}
use Rattle.image_words.specs.StatementParts.{no_argument, first_argument, read_argument, read_arguments_lem}
use Rattle.copying.specs.Copy.{Copied, spot, copied, copied_arguments}
use Rattle.copying.specs.Laws.{copied_end, copied_got, arguments_got}

module _ (first n l : ℕ) (image : List ℕ) where
  pub arguments_ready : (at : ℕ) → ok (arguments_at n l image at) ≡ true → ok (arguments_at (n - 0) l image at) ≡ true
  arguments_ready at t = let e : n - 0 ≡ n = omega arith in rw e t

  pub arguments_begin : (at o : ℕ) (out : List ℕ) → copied_arguments first o out (arguments_at (n - 0) l image at) ≡ copied_arguments first o out (arguments_at n l image at)
  arguments_begin at o out = let e : n - 0 ≡ n = omega arith in rw e

  module _ (at j o : ℕ) (out : List ℕ) (X : Copied) (u : copied_arguments first o out (arguments_at (n - j) l image at) ≡ X) where
    pub arguments_done : n ≤ j → ◌≡◌ {A = Copied} (at, (o, out)) X
    unfolding moved_all argument_words flat_map
    arguments_done h =
        let z : n - j ≡ 0 = omega arith in
        ap (λ (y : Output). spot at y) (sym (writes_nil o out))
        ∙ sym (arguments_got first o out _ [] at (ap (λ k. arguments_at k l image at) z ∙ no_argument l image at)) ∙ u

    pub arguments_more : (e q : ℕ) (t1 : List ℕ) → ok (arguments_at (n - j) l image at) ≡ true → j < n → ◌≡◌ {A = Copied} (e, (q, t1)) (copied first o out (read_expression l image at))
        → copied_arguments first q t1 (arguments_at (n - (j + 1)) l image e) ≡ X
    unfolding moved_all argument_words flat_map
    arguments_more e q t1 t h g =
        let z : n - (j + 1) ≡ n - j - 1 = omega arith in
        let (f, m, es, p, w, r, s) = first_argument (n - j) l image at t (omega arith) in
        ap (λ (y : Copied). copied_arguments first y.1.0 y.1.1 (arguments_at (n - (j + 1)) l image y.0)) (g ∙ copied_got first o out _ f m w)
        ∙ arguments_got first _ _ _ es p (ap (λ k. arguments_at k l image m) z ∙ r)
        ∙ ap (λ (y : Output). spot p y) (sym (writes_app (expression_words (moved first f)) (argument_words (moved_all first es)) o out))
        ∙ sym (arguments_got first o out _ (f ∷ es) p s) ∙ u

  module _ (at j : ℕ) (t : ok (arguments_at (n - j) l image at) ≡ true) (h : j < n) where
    pub arguments_again : (o : ℕ) (out : List ℕ) (e q : ℕ) (t1 : List ℕ) → ◌≡◌ {A = Copied} (e, (q, t1)) (copied first o out (read_expression l image at))
        → ok (arguments_at (n - (j + 1)) l image e) ≡ true
    arguments_again o out e q t1 g =
        let z : n - (j + 1) ≡ n - j - 1 = omega arith in
        rw z (read_arguments_lem (n - j) l image at e t (omega arith) (copied_end first o out _ e q t1 g))

pub argument_read : (n l : ℕ) (image : List ℕ) (at j : ℕ) → ok (arguments_at (n - j) l image at) ≡ true → j < n → ExpressionRead l image at
argument_read n l image at j t h = read_argument (n - j) l image at t (omega arith)
