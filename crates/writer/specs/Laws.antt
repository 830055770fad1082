-- Laws of writing: words in runs, a word written again, and what the output holds in the end. Assumes nothing.
use Rattle.std.specs.Prelude.{ℕ, ◌+◌, ◌≤◌, ◌<◌, Bool, true, false, ◌≡◌, refl, List, [], ◌∷◌, ◌++◌, ltb, length, set, drop}
use Rattle.std.proofs.Common.{sym, ap, ◌∙◌, arith, add-one, zero-add, set-set, ltb-true, ltb-false, lt-ltb, le-ltb}
use Rattle.std.proofs.lemmas.List.{set_comm}
use Rattle.std.proofs.lemmas.List.Edits.{sets, sets-eq}
use Rattle.writer.specs.Writing.{Output, write, writes}

pub writes_nil : (o : ℕ) (out : List ℕ) → writes o out [] ≡ (o, out)
unfolding writes
writes_nil o out = refl

pub writes_on : (o : ℕ) (out : List ℕ) (w : ℕ) (ws : List ℕ) → writes o out (w ∷ ws) ≡ writes (write o out w).0 (write o out w).1 ws
unfolding writes
writes_on o out w ws = refl

pub writes_one : (o : ℕ) (out : List ℕ) (w : ℕ) → writes o out (w ∷ []) ≡ write o out w
writes_one o out w = writes_on o out w [] ∙ writes_nil _ _

-- one run of words after another
pub writes_app : (a b : List ℕ) (o : ℕ) (out : List ℕ) → writes o out (a ++ b) ≡ writes (writes o out a).0 (writes o out a).1 b
writes_app [] b o out = rw (writes_nil o out)
writes_app (w ∷ a) b o out = rw (writes_on o out w (a ++ b), writes_on o out w a) (writes_app a b _ _)

-- runs that were written one after the other
module _ (o : ℕ) (out : List ℕ) (p : ℕ) (t : List ℕ) where
  pub word_run : (w : ℕ) (b : List ℕ) (r : Output) → ◌≡◌ {A = Output} (p, t) (write o out w) → r ≡ writes p t b → r ≡ writes o out (w ∷ b)
  word_run w b r e f = f ∙ ap (λ (z : Output). writes z.0 z.1 b) e ∙ sym (writes_on o out w b)

  pub run_run : (a b : List ℕ) (r : Output) → ◌≡◌ {A = Output} (p, t) (writes o out a) → r ≡ writes p t b → r ≡ writes o out (a ++ b)
  run_run a b r e f = f ∙ ap (λ (z : Output). writes z.0 z.1 b) e ∙ sym (writes_app a b o out)

-- ---- a word written again

write_near : (o : ℕ) (out : List ℕ) (w : ℕ) → o < 16385 → write o out w ≡ (o + 1, set out o w)
unfolding write
write_near o out w h = rw (lt-ltb _ _ h)

write_far : (o : ℕ) (out : List ℕ) (w : ℕ) → 16385 ≤ o → write o out w ≡ (o, out)
unfolding write
write_far o out w h = rw (le-ltb _ _ h)

-- a word before the place where a run begins is passed over by it
behind : (ws : List ℕ) (o p : ℕ) (out : List ℕ) (w : ℕ) → o < p → writes p (set out o w) ws ≡ ((writes p out ws).0, set (writes p out ws).1 o w)
behind [] o p out w h = rw (writes_nil p (set out o w), writes_nil p out)
behind (x ∷ ws) o p out w h = go (λ q t g. behind ws o q t w g) (ltb p 16385) refl
  where
    go : ((q : ℕ) (t : List ℕ) → o < q → writes q (set t o w) ws ≡ ((writes q t ws).0, set (writes q t ws).1 o w))
        → (b : Bool) → ltb p 16385 ≡ b → writes p (set out o w) (x ∷ ws) ≡ ((writes p out (x ∷ ws)).0, set (writes p out (x ∷ ws)).1 o w)
    go rest true e =
        let n : p < 16385 = ltb-true _ _ e in
        let d : o ≡ p → ⊥ = λ q. omega arith in
        rw (writes_on p (set out o w) x ws, writes_on p out x ws, write_near p (set out o w) x n, write_near p out x n, set_comm out o p w x d)
        (rest (p + 1) (set out p x) (omega arith))
    go rest false e =
        let f : 16385 ≤ p = ltb-false _ _ e in
        rw (writes_on p (set out o w) x ws, writes_on p out x ws, write_far p (set out o w) x f, write_far p out x f)
        (rest p out h)

-- a word written before its value was known, and then again with its value
pub patched : (o : ℕ) (out : List ℕ) (v w : ℕ) (ws : List ℕ)
    → ((writes o out (v ∷ ws)).0, (write o (writes o out (v ∷ ws)).1 w).1) ≡ writes o out (w ∷ ws)
patched o out v w ws = go (ltb o 16385) refl
  where
    go : (b : Bool) → ltb o 16385 ≡ b → ((writes o out (v ∷ ws)).0, (write o (writes o out (v ∷ ws)).1 w).1) ≡ writes o out (w ∷ ws)
    go true e =
        let n : o < 16385 = ltb-true _ _ e in
        rw (
          writes_on o out v ws,
          writes_on o out w ws,
          write_near o out v n,
          write_near o out w n,
          behind ws o (o + 1) out v (omega arith),
          behind ws o (o + 1) out w (omega arith),
          write_near o (set (writes (o + 1) out ws).1 o v) w n,
          set-set (writes (o + 1) out ws).1 o v w,
        )
    go false e =
        let f : 16385 ≤ o = ltb-false _ _ e in
        rw (writes_on o out v ws, writes_on o out w ws, write_far o out v f, write_far o out w f, write_far o (writes o out ws).1 w f)

-- ---- what the output holds in the end

-- few words: the place after them counts them
pub place : (ws : List ℕ) (o : ℕ) (out : List ℕ) → o + length ws ≤ 16385 → (writes o out ws).0 ≡ o + length ws
place [] o out h = rw (writes_nil o out) (omega arith)
place (w ∷ ws) o out h =
    rw (writes_on o out w ws, write_near o out w (omega arith), place ws (o + 1) (set out o w) (omega arith)) (omega arith)

-- many words: the place is one past the largest image
pub place_far : (ws : List ℕ) (o : ℕ) (out : List ℕ) → o ≤ 16385 → 16385 ≤ o + length ws → (writes o out ws).0 ≡ 16385
place_far [] o out h g = rw (writes_nil o out) (omega arith)
place_far (w ∷ ws) o out h g = go (λ p t x y. place_far ws p t x y) (ltb o 16385) refl
  where
    go : ((p : ℕ) (t : List ℕ) → p ≤ 16385 → 16385 ≤ p + length ws → (writes p t ws).0 ≡ 16385) → (b : Bool) → ltb o 16385 ≡ b → (writes o out (w ∷ ws)).0 ≡ 16385
    go rest true e =
        let n : o < 16385 = ltb-true _ _ e in
        rw (writes_on o out w ws, write_near o out w n) (rest (o + 1) (set out o w) (omega arith) (omega arith))
    go rest false e =
        let f : 16385 ≤ o = ltb-false _ _ e in
        rw (writes_on o out w ws, write_far o out w f) (rest o out h (omega arith))

-- the words stand in the output from the place on
stored : (ws : List ℕ) (o : ℕ) (out : List ℕ) → o + length ws ≤ 16385 → (writes o out ws).1 ≡ sets out o ws
stored [] o out h = rw (writes_nil o out)
stored (w ∷ ws) o out h =
    rw (writes_on o out w ws, write_near o out w (omega arith), stored ws (o + 1) (set out o w) (omega arith), add-one o)

-- words that fit stand in front of what the output held behind them
pub whole : (ws out : List ℕ) → length ws ≤ 16384 → length ws ≤ length out → (writes 0 out ws).1 ≡ ws ++ drop (length ws) out
whole ws out h g = stored ws 0 out (omega arith) ∙ sets-eq ws out 0 (omega arith) ∙ rw (zero-add (length ws))
