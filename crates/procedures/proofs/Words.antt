-- The rules of the words around a procedure's own statements. Assumes nothing.
use Prim.Native.Nat.{ℕ, suc, ◌+◌, ◌*◌, ◌-◌, ◌≤◌, ◌<◌}
use mathlib.Core.Bool.{Bool, true, false}
use mathlib.Core.List.{List, [], ◌∷◌, ◌++◌}
use mathlib.Core.Path.{◌≡◌, sym, ap, ◌∙◌}
use native.Mathlib.Omega.{arith}
use lib.ListN.{length, take, drop, replicate, length-drop}
use lib.Seq.{take_all}
use Rattle.definitions.specs.Choice.{pick}
use Rattle.definitions.specs.Encoding.{word_with, statement_word_with}
use Rattle.definitions.specs.Compiling.{secret_of, secret_boolean, pair_types}
use Rattle.writer.specs.Writing.{Output, write, writes}
use Rattle.writer.specs.Laws.{writes_nil, writes_one, writes_app, run_run}

pub pairs_begin : (levels p : ℕ) (out : List ℕ) → writes p out (pair_types (levels - 0)) ≡ writes p out (pair_types levels)
pairs_begin levels p out = let z : levels - 0 ≡ levels = omega arith in ap (λ k. writes p out (pair_types k)) z

-- the pairs that are left
module _ (levels j p : ℕ) (out : List ℕ) (X : Output) (u : writes p out (pair_types (levels - j)) ≡ X) where
  pub pairs_done : levels ≤ j → ◌≡◌ {A = Output} (p, out) X
  pairs_done h =
      let z : levels - j ≡ 0 = omega arith in
      sym (ap (λ k. writes p out (pair_types k)) z ∙ writes_nil p out) ∙ u

  pub pairs_more : (q : ℕ) (t : List ℕ) → j < levels → ◌≡◌ {A = Output} (q, t) (writes p out (secret_boolean ∷ (secret_boolean ∷ [])))
      → writes q t (pair_types (levels - (j + 1))) ≡ X
  pairs_more q t h e =
      let z : 2 * (levels - j) ≡ suc (suc (2 * (levels - (j + 1)))) = omega arith in
      ap (λ (y : Output). writes y.0 y.1 (pair_types (levels - (j + 1)))) e
      ∙ sym (writes_app (secret_boolean ∷ (secret_boolean ∷ [])) (pair_types (levels - (j + 1))) p out)
      ∙ sym (ap (λ k. writes p out (replicate k secret_boolean)) z) ∙ u

module _ (o : ℕ) (out : List ℕ) (b : Bool) where
  pub temporary_on : (sort w r : ℕ) (t : List ℕ) → b ≡ true → w ≡ secret_of sort → ◌≡◌ {A = Output} (r, t) (write o out w)
      → ◌≡◌ {A = Output} (r, t) (writes o out (pick b (secret_of sort ∷ []) []))
  temporary_on sort w r t h hw e = rw h (e ∙ ap (λ (z : ℕ). write o out z) hw ∙ sym (writes_one o out (secret_of sort)))

  pub chosen_word : (w r : ℕ) (t : List ℕ) → b ≡ true → ◌≡◌ {A = Output} (r, t) (write o out w) → ◌≡◌ {A = Output} (r, t) (writes o out (pick b (w ∷ []) []))
  chosen_word w r t h e = rw h (e ∙ sym (writes_one o out w))

  pub chosen_run : (ws : List ℕ) (r : ℕ) (t : List ℕ) → b ≡ true → ◌≡◌ {A = Output} (r, t) (writes o out ws)
      → ◌≡◌ {A = Output} (r, t) (writes o out (pick b ws []))
  chosen_run ws r t h e = rw h e

  pub chosen_none : (ws : List ℕ) → b ≡ false → ◌≡◌ {A = Output} (o, out) (writes o out (pick b ws []))
  chosen_none ws h = rw h (sym (writes_nil o out))

  module _ (rv w r : ℕ) (t : List ℕ) where
    pub live_on : b ≡ true → w ≡ statement_word_with 0 (rv + 1) → ◌≡◌ {A = Output} (r, t) (writes o out (w ∷ (word_with 9 1 ∷ [])))
        → ◌≡◌ {A = Output} (r, t) (writes o out (pick b (statement_word_with 0 (rv + 1) ∷ (word_with 9 1 ∷ [])) []))
    live_on h e f = rw h (f ∙ ap (λ (z : ℕ). writes o out (z ∷ (word_with 9 1 ∷ []))) e)

    pub last_on : b ≡ true → w ≡ word_with 10 rv → ◌≡◌ {A = Output} (r, t) (writes o out (statement_word_with 4 0 ∷ (w ∷ [])))
        → ◌≡◌ {A = Output} (r, t) (writes o out (pick b (statement_word_with 4 0 ∷ (word_with 10 rv ∷ [])) []))
    last_on h e f = rw h (f ∙ ap (λ (z : ℕ). writes o out (statement_word_with 4 0 ∷ (z ∷ []))) e)

pub kept_on : (types : List ℕ) (o : ℕ) (out : List ℕ) (n : ℕ) (g : Bool) (a : ℕ) (t1 : List ℕ) (b : ℕ) (t2 : List ℕ) (r : ℕ) (t3 : List ℕ)
    → ◌≡◌ {A = Output} (a, t1) (writes o out (take n types)) → ◌≡◌ {A = Output} (b, t2) (writes a t1 (pick g (secret_boolean ∷ []) []))
    → ◌≡◌ {A = Output} (r, t3) (writes b t2 (take (length types - n) (drop n types)))
    → ◌≡◌ {A = Output} (r, t3) (writes o out (take n types ++ (pick g (secret_boolean ∷ []) [] ++ drop n types)))
kept_on types o out n g a t1 b t2 r t3 e f h =
    let y : take (length types - n) (drop n types) ≡ drop n types = take_all (length types - n) (drop n types) (omega (arith, length-drop n types)) in
    run_run o out a t1 (take n types) (pick g (secret_boolean ∷ []) [] ++ drop n types) (r, t3) e
    (run_run a t1 b t2 (pick g (secret_boolean ∷ []) []) (drop n types) (r, t3) f (h ∙ ap (λ l. writes b t2 l) y))
