-- Where a copied expression ends, and copies in a row. Assumes nothing.
use Rattle.std.specs.Prelude.{ℕ, List, ◌∷◌, ◌++◌, ◌≡◌, refl}
use Rattle.std.proofs.Common.{sym, ap, ◌∙◌}
use Rattle.definitions.specs.Image.{Expression}
use Rattle.definitions.specs.Reading.{Parse, got, refused}
use Rattle.definitions.specs.Encoding.{expression_words, argument_words}
use Rattle.definitions.specs.Compiling.{moved, moved_all}
use Rattle.laws.specs.Parses.{end_of}
use Rattle.writer.specs.Writing.{Output, write, writes}
use Rattle.writer.specs.Laws.{writes_on, writes_app}
use Rattle.copying.specs.Copy.{Copied, spot, copied, copied_two, copied_arguments}

pub copied_at : (first o : ℕ) (out : List ℕ) (x : Parse Expression) → (copied first o out x).0 ≡ end_of x
unfolding copied end_of
copied_at first o out (got e n) = refl
copied_at first o out (refused n p) = refl

pub copied_end : (first o : ℕ) (out : List ℕ) (x : Parse Expression) (r p : ℕ) (t : List ℕ) → ◌≡◌ {A = Copied} (r, (p, t)) (copied first o out x)
    → r ≡ end_of x
copied_end first o out x r p t e = ap (λ (z : Copied). z.0) e ∙ copied_at first o out x

pub copied_got : (first o : ℕ) (out : List ℕ) (x : Parse Expression) (e : Expression) (n : ℕ) → x ≡ got e n
    → copied first o out x ≡ spot n (writes o out (expression_words (moved first e)))
unfolding copied
copied_got first o out x e n q = rw q

pub two_got : (first o : ℕ) (out : List ℕ) (x y : Parse Expression) (e f : Expression) (n m : ℕ) → x ≡ got e n → y ≡ got f m
    → copied_two first o out x y ≡ spot m (writes o out (expression_words (moved first e) ++ expression_words (moved first f)))
unfolding copied copied_two
two_got first o out x y e f n m q r =
    rw (q, r, writes_app (expression_words (moved first e)) (expression_words (moved first f)) o out)

pub arguments_got : (first o : ℕ) (out : List ℕ) (x : Parse (List Expression)) (es : List Expression) (n : ℕ) → x ≡ got es n
    → copied_arguments first o out x ≡ spot n (writes o out (argument_words (moved_all first es)))
unfolding copied_arguments
arguments_got first o out x es n q = rw q

-- a word before a run
pub word_then : (n o : ℕ) (out : List ℕ) (w : ℕ) (ws : List ℕ) → spot n (writes (write o out w).0 (write o out w).1 ws) ≡ spot n (writes o out (w ∷ ws))
word_then n o out w ws = ap (λ (z : Output). spot n z) (sym (writes_on o out w ws))
