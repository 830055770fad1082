-- Trace words with others behind them: what a run has recorded, and what it records later. Assumes nothing.
use Rattle.std.specs.Prelude.{◌≡◌, refl, Bool, true, false, List, [], ◌∷◌, ◌++◌, ℕ, ◌+◌, ◌*◌, ◌≤◌, ltb, length, take}
use Rattle.std.proofs.Common.{append_assoc, append-nil, arith, length-append}
use Rattle.std.proofs.Math.Seq.{take-append_seam}
use Rattle.definitions.specs.Choice.{pick}
use Rattle.definitions.specs.Running.{trace_words, value, stop, emit}
use Rattle.results.specs.SideBySide.{trace_after}

-- trace words with at least n more behind them
pub data More (n : ℕ) (t : List ℕ) : List ℕ → Type 0 where
  more : (u : List ℕ) → n ≤ length u → More n t (t ++ u)

pub no_more : (t : List ℕ) → More 0 t t
no_more t =
    let none : More 0 t (t ++ []) = more [] (omega arith) in
    rw (append-nil t) at none

pub more_behind : {n : ℕ} {t u v : List ℕ} → More n t u → More 0 u v → More n t v
more_behind {n} {t} (more u h) (more v g) = rw (append_assoc t u v) (more (u ++ v) (rw (length-append u v) (omega arith)))

pub more_length : {n : ℕ} {t u : List ℕ} → More n t u → length t + n ≤ length u
more_length {t = t} (more u h) = rw (length-append t u) (omega arith)

pub more_taken : {n : ℕ} {t u : List ℕ} → More n t u → take (length t) u ≡ t
more_taken {t = t} (more u h) = take-append_seam t u

-- what stands behind
pub more_rest : {n : ℕ} {t u : List ℕ} → More n t u → List ℕ
more_rest (more u h) = u

pub more_splits : {n : ℕ} {t u : List ℕ} (m : More n t u) → u ≡ t ++ more_rest m
unfolding more_rest
more_splits (more u h) = refl

-- whether an entry is recorded or not, what was recorded before stays
pub emitted_more : (room kind l v : ℕ) (t : List ℕ) → More 0 t (trace_after (emit (trace_words room) kind l v t))
unfolding emit
emitted_more room kind l v t = go (ltb room (length t + 2))
  where
    go : (c : Bool) → More 0 t (trace_after {A = ℕ} (pick c (stop 22 l t) (value v (t ++ ((kind * 268435456 + l) ∷ v ∷ [])))))
    go true = no_more t
    go false = more ((kind * 268435456 + l) ∷ v ∷ []) (omega arith)
