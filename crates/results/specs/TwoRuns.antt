-- Two runs that differ only in the budget and in the number of trace words that there is room for: they are the same run, or the
-- smaller budget is spent, or the smaller trace is full, and the other run goes on from there. Assumes nothing.
use Rattle.std.specs.Prelude.{◌≡◌, Bool, true, false, ltb, length}
use Rattle.std.proofs.Math.Path.{refl}
use mathlib.Core.List.{List, [], ◌∷◌, ◌++◌}
use Prim.Native.Nat.{ℕ, ◌+◌, ◌*◌, ◌≤◌, ◌<◌}
use Rattle.std.proofs.Common.{arith, ltb-true, ltb-false}
use Rattle.definitions.specs.Choice.{pick}
use Rattle.definitions.specs.Image.{Procedure}
use Rattle.definitions.specs.Running.{trace_words, value, stop, emit, operated, run_procedure}
use Rattle.laws.specs.Trees.{Anywhere, anywhere_procedures}
use Rattle.results.specs.WordsNamed.{AnyName, procedures_any}
use Rattle.results.specs.SideBySide.{Comparison, SameRun, BothEvaluate, SameValue, both_value}
use Rattle.results.specs.SideBySide.{both_stop, first_stop, Keeps, operated_both, procedure_runs}
use Rattle.results.specs.MoreWords.{More, more, no_more, more_behind, emitted_more}
use Rattle.results.specs.ByOperators.{by_procedure}

-- The first of two runs halts, with the budget b and room for r trace words: with "21 budget spent", after b steps, and the second takes more; or with
-- "22 trace full", "fewer than two trace words are free for an entry", and the second records at least two words more. What the first recorded, the
-- second did.
pub data Cut (b r : ℕ) : ℕ → ℕ → ℕ → List ℕ → ℕ → List ℕ → Type 0 where
  spent : {l z y : ℕ} {t u : List ℕ} → z ≡ b → b < y → More 0 t u → Cut b r 21 l z t y u
  filled : {l z y : ℕ} {t u : List ℕ} → r < length t + 2 → More 2 t u → Cut b r 22 l z t y u

pub cut_later : {b r k l z y y' : ℕ} {t u u' : List ℕ} → Cut b r k l z t y u → y ≤ y' → More 0 u u' → Cut b r k l z t y' u'
cut_later {y' = y'} (spent e h m) g n = spent {y = y'} e (omega arith) (more_behind m n)
cut_later (filled h m) g n = filled h (more_behind m n)

-- as long as both go on, they are one run within the budget
abbrev pub cut_comparison : ℕ → ℕ → Comparison (List ℕ) (List ℕ)
cut_comparison b r =
    record {
      Both = λ z t u. (t ≡ u) × (z ≤ b);
      Later = λ t u. More 0 t u;
      Alone = Cut b r;
      none_later = no_more;
      and_later = more_behind;
      still_alone = cut_later;
    }

module _ (b b' r r' : ℕ) (budgets : b ≤ b') (rooms : r ≤ r') where
  emits : (kind l v z : ℕ) (t u : List ℕ) → BothEvaluate (cut_comparison b r) z t u (emit (trace_words r) kind l v t) (emit (trace_words r') kind l v u)
  unfolding emit
  emits kind l v z t u =
      record { same = λ h. rw h.0 (go (ltb r (length u + 2)) (ltb r' (length u + 2)) refl refl h.1); later = emitted_more r' kind l v u }
    where
      entered : List ℕ
      entered = u ++ ((kind * 268435456 + l) ∷ v ∷ [])

      go : (c d : Bool) → ltb r (length u + 2) ≡ c → ltb r' (length u + 2) ≡ d → z ≤ b
          → SameValue (cut_comparison b r) {A = ℕ} z (pick c (stop 22 l u) (value v entered)) (pick d (stop 22 l u) (value v entered))
      go true true e e' h = both_stop (refl, h)
      go true false e e' h = first_stop (filled (ltb-true _ _ e) (more ((kind * 268435456 + l) ∷ v ∷ []) (omega arith)))
      go false true e e' h = absurd (let i = ltb-false r (length u + 2) e in let g = ltb-true r' (length u + 2) e' in omega arith)
      go false false e e' h = both_value (refl, h)

  spent_first : (l z : ℕ) (t u : List ℕ) → b ≤ z → z ≤ b → t ≡ u → Cut b r 21 l z t (z + 1) u
  spent_first l z t u h g e = let k : z ≡ b = omega arith in rw e (spent {y = z + 1} k (omega arith) (no_more u))

  keeps_cut : Keeps (cut_comparison b r) (trace_words r) (trace_words r') b b' Anywhere
  keeps_cut =
      record {
        no_less = budgets;
        stepped = λ z t u e h. (h.0, let i = ltb-true z b e in omega arith);
        spent = λ l z t u e e' h. spent_first l z t u (ltb-false z b e) h.1 h.0;
        emits = λ kind l v z t u _ _. emits kind l v z t u;
      }

  pub two_runs : (arrays : List ℕ) (ps : List Procedure) (n f : ℕ) (arguments cells : List ℕ)
      → SameRun (cut_comparison b r) (run_procedure (trace_words r) b arrays ps n f arguments 0 [] cells)
      (run_procedure (trace_words r') b' arrays ps n f arguments 0 [] cells)
  two_runs arrays ps n f arguments cells =
      rw (← by_procedure (trace_words r') b' arrays ps n f arguments 0 [] cells)
      ((procedure_runs (cut_comparison b r) keeps_cut arrays AnyName (operated (trace_words r'))
      (operated_both (cut_comparison b r) keeps_cut arrays (λ kind l v z t u _. emits kind l v z t u) AnyName)
      (anywhere_procedures ps) (procedures_any ps) n f arguments 0 [] [] cells).same (refl, omega arith))
