-- What each return of the writer gives. Assumes nothing.
use Prim.Native.Nat.{ℕ, ◌+◌, ◌≤◌, ◌<◌}
use mathlib.Core.Path.{◌≡◌, sym, ap, ◌∙◌}
use mathlib.Core.List.{List}
use lib.ListN.{length, set, get_or}
use lib.Seq.{set_out}
use Rattle.std.proofs.Common.{drop, add-one, drop-cons}
use Rattle.std.proofs.lemmas.List.{drop_all}
use borrow.Author.Tests.{lt-ltb, le-ltb}
use Rattle.writer.specs.Writing.{Output, write, writes}
use Rattle.writer.specs.Laws.{writes_nil, writes_on}

pub put_past : (o : ℕ) (out : List ℕ) (w : ℕ) → 16385 ≤ o → ◌≡◌ {A = Output} (o, out) (write o out w)
unfolding write
put_past o out w h = rw (le-ltb _ _ h)

pub put_within : (o : ℕ) (out : List ℕ) (w : ℕ) → o < 16385 → ◌≡◌ {A = Output} (o + 1, set out o w) (write o out w)
unfolding write
put_within o out w h = rw (lt-ltb _ _ h)

pub patch_on : (r o : ℕ) (out t : List ℕ) (w : ℕ) → ◌≡◌ {A = Output} (r, t) (write o out w) → t ≡ (write o out w).1
patch_on r o out t w e = ap (λ (z : Output). z.1) e

-- of the words that are written in a row, those from an index on are left
module _ (o : ℕ) (out ws : List ℕ) where
  pub all_begin : writes o out (drop 0 ws) ≡ writes o out ws
  all_begin = λ i. writes o out ws

  module _ (X : Output) (i : ℕ) (h : writes o out (drop i ws) ≡ X) where
    pub all_more : (p : ℕ) (t : List ℕ) → i < length ws → ◌≡◌ {A = Output} (p, t) (write o out (get_or ws i 0)) → writes p t (drop (i + 1) ws) ≡ X
    all_more p t g e =
        ap (λ (z : Output). writes z.0 z.1 (drop (i + 1) ws)) e
        ∙ sym (writes_on o out (get_or ws i 0) (drop (i + 1) ws))
        ∙ rw (add-one, ← drop-cons ws i 0) h

    pub all_done : length ws ≤ i → ◌≡◌ {A = Output} (o, out) X
    all_done g = sym (writes_nil o out) ∙ ap (λ (l : List ℕ). writes o out l) (sym (drop_all i ws g)) ∙ h

pub stored_past : (place : ℕ) (words : List ℕ) (word : ℕ) → length words ≤ place → words ≡ set words place word
stored_past place words word h = rw (set_out words place word h)
