-- Words and copied expressions written one after the other by several calls: each law joins what two calls wrote. Assumes nothing.
use Rattle.std.specs.Prelude.{ℕ, List, ◌∷◌, ◌++◌, ◌≡◌}
use Rattle.std.proofs.Common.{sym, ap, ◌∙◌}
use Rattle.writer.specs.Writing.{Output, write, writes}
use Rattle.writer.specs.Laws.{writes_on, writes_app}
use Rattle.copying.specs.Copy.{Copied, spot}

module _ (o : ℕ) (out : List ℕ) (p : ℕ) (t : List ℕ) where
  pub word_copy : (w : ℕ) (b : List ℕ) (n : ℕ) (r : Copied) → ◌≡◌ {A = Output} (p, t) (write o out w) → r ≡ spot n (writes p t b) → r ≡ spot n (writes o out (w ∷ b))
  word_copy w b n r e f = f ∙ ap (λ (z : Output). spot n (writes z.0 z.1 b)) e ∙ ap (λ (z : Output). spot n z) (sym (writes_on o out w b))

  pub run_copy : (a b : List ℕ) (n : ℕ) (r : Copied) → ◌≡◌ {A = Output} (p, t) (writes o out a) → r ≡ spot n (writes p t b) → r ≡ spot n (writes o out (a ++ b))
  run_copy a b n r e f = f ∙ ap (λ (z : Output). spot n (writes z.0 z.1 b)) e ∙ ap (λ (z : Output). spot n z) (sym (writes_app a b o out))

module _ (o : ℕ) (out : List ℕ) (v p : ℕ) (t : List ℕ) (a : List ℕ) (n : ℕ) (e : ◌≡◌ {A = Copied} (v, (p, t)) (spot n (writes o out a))) where
  pub copy_run : (b : List ℕ) (r : ℕ) (u : List ℕ) → ◌≡◌ {A = Output} (r, u) (writes p t b)
      → ◌≡◌ {A = Copied} (v, (r, u)) (spot n (writes o out (a ++ b)))
  copy_run b r u f =
      ap (λ (y : Output). spot v y) (f ∙ ap (λ (z : Copied). writes z.1.0 z.1.1 b) e ∙ sym (writes_app a b o out))
      ∙ ap (λ (z : Copied). spot z.0 (writes o out (a ++ b))) e

  pub copy_copy : (b : List ℕ) (m : ℕ) (r : Copied) → r ≡ spot m (writes p t b) → r ≡ spot m (writes o out (a ++ b))
  copy_copy b m r f = f ∙ ap (λ (z : Copied). spot m (writes z.1.0 z.1.1 b)) e ∙ ap (λ (y : Output). spot m y) (sym (writes_app a b o out))
