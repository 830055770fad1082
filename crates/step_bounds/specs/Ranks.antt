-- The rank of the lowest procedure with a for whose bounds are not constants, among a procedure and those that it calls: 32 less its number, and 0 for
-- none. That procedure is all that has to be kept of which procedures are reached; the proofs go by its rank. Assumes nothing.
use Prim.Native.Nat.{ℕ, zero, suc, ◌-◌, ◌≤◌, ◌<◌, max}
use Rattle.std.specs.Prelude.{Bool, ◌||◌, ◌≡◌, ltb, Option, Some, None}
use Rattle.std.proofs.Math.Bool.{true, false}
use mathlib.Core.List.{List, [], ◌++◌, append_assoc, append-nil}
use Rattle.std.proofs.Math.Path.{refl}
use Rattle.std.proofs.Common.{sym}
use native.Mathlib.Omega.{arith}
use borrow.Author.Tests.{eqb-true, eqb-false, eq-eqb, ltb-true, ltb-false}
use Rattle.std.proofs.Math.Dec.{eqb}
use Rattle.definitions.specs.Choice.{pick}
use Rattle.definitions.specs.Image.{Statement, assign, store, conditional, loop, return, call, Block, done, sequence}
use Rattle.definitions.specs.Image.{Procedure, procedure_at}
use Rattle.definitions.specs.StepBounds.{statement_calls, block_calls, reaches, variable_fors_in, callees_variable_fors}
use Rattle.laws.specs.Tests.{false_true, or_left, or_right}
use Rattle.laws.specs.StepBounds.{block_called}
use Rattle.step_bounds.specs.Counting.{some, lower, statement_lowest, block_lowest}

-- the highest of the ranks that calls lead to, over the one that each callee leads to
module _ (rank : ℕ → ℕ) where
  unfoldable mutual
    pub statement_rank : Statement → ℕ
    statement_rank (assign x e) = 0
    statement_rank (store a i e) = 0
    statement_rank (conditional c a b) = max (block_rank a) (block_rank b)
    statement_rank (loop x f t b) = block_rank b
    statement_rank (return e) = 0
    statement_rank (call f x es) = rank f

    pub block_rank : Block → ℕ
    block_rank done = 0
    block_rank (sequence p s b) = max (statement_rank s) (block_rank b)

-- ---- the rank of a procedure, and that of the lowest of some

abbrev pub rank_of : Option ℕ → ℕ
rank_of None = 0
rank_of (Some g) = 32 - g

pub rank_lower : (a b : Option ℕ) → rank_of (lower a b) ≡ max (rank_of a) (rank_of b)
unfolding lower
rank_lower None b = omega arith
rank_lower (Some g) None = omega arith
rank_lower (Some g) (Some h) = omega arith

module _ (lowest : ℕ → Option ℕ) where
  mutual
    unfolding statement_rank block_rank statement_lowest block_lowest

    rank_statement : (s : Statement) → rank_of (statement_lowest lowest s) ≡ statement_rank (λ g. rank_of (lowest g)) s
    rank_statement (assign x e) = refl
    rank_statement (store a i e) = refl
    rank_statement (conditional k a b) = rw (rank_lower, rank_block a, rank_block b)
    rank_statement (loop x f t b) = rank_block b
    rank_statement (return e) = refl
    rank_statement (call f x es) = refl

    pub rank_block : (b : Block) → rank_of (block_lowest lowest b) ≡ block_rank (λ g. rank_of (lowest g)) b
    rank_block done = refl
    rank_block (sequence p s b) = rw (rank_lower, rank_statement s, rank_block b)

-- the rank by what is known of each callee
module _ (rank other : ℕ → ℕ) (h : (g : ℕ) → rank g ≡ other g) where
  mutual
    unfolding statement_rank block_rank

    same_statement : (s : Statement) → statement_rank rank s ≡ statement_rank other s
    same_statement (assign x e) = refl
    same_statement (store a i e) = refl
    same_statement (conditional k a b) = rw (same_block a, same_block b)
    same_statement (loop x f t b) = same_block b
    same_statement (return e) = refl
    same_statement (call f x es) = h f

    pub same_block : (b : Block) → block_rank rank b ≡ block_rank other b
    same_block done = refl
    same_block (sequence p s b) = rw (same_statement s, same_block b)

module _ (rank : ℕ → ℕ) (m : ℕ) (h : (g : ℕ) → rank g ≤ m) where
  mutual
    unfolding statement_rank block_rank

    small_statement : (s : Statement) → statement_rank rank s ≤ m
    small_statement (assign x e) = omega arith
    small_statement (store a i e) = omega arith
    small_statement (conditional k a b) = let p = small_block a in let q = small_block b in omega arith
    small_statement (loop x f t b) = small_block b
    small_statement (return e) = omega arith
    small_statement (call f x es) = h f

    pub small_block : (b : Block) → block_rank rank b ≤ m
    small_block done = omega arith
    small_block (sequence p s b) = let q = small_statement s in let r = small_block b in omega arith

-- the higher of two ranks
two : {m : ℕ} (a b : Bool) (x y : ℕ) → (a || b) ≡ true → (a ≡ true → m ≤ x) → (b ≡ true → m ≤ y) → m ≤ max x y
two true b x y c f g = let l = f refl in omega arith
two false b x y c f g = let l = g c in omega arith

either : {m : ℕ} (x y : ℕ) (a b : Bool) → max x y ≡ m → (x ≡ m → a ≡ true) → (y ≡ m → b ≡ true) → (a || b) ≡ true
either {m} x y a b c f g = go (ltb x y) refl
  where
    go : (t : Bool) → ltb x y ≡ t → (a || b) ≡ true
    go true e = let l = ltb-true x y e in or_right a b (g (omega arith))
    go false e = let l = ltb-false x y e in or_left a b (f (omega arith))

-- a call that passes a test leads to a rank as high as any that passes it
module _ (rank : ℕ → ℕ) (test : ℕ → Bool) (m : ℕ) (h : (k : ℕ) → test k ≡ true → m ≤ rank k) where
  mutual
    unfolding statement_calls block_calls statement_rank block_rank

    high_statement : (s : Statement) → statement_calls test s ≡ true → m ≤ statement_rank rank s
    high_statement (assign x e) c = false_true c
    high_statement (store a i e) c = false_true c
    high_statement (conditional k a b) c = two (block_calls test a) (block_calls test b) _ _ c (λ q. high_block a q) (λ q. high_block b q)
    high_statement (loop x f t b) c = high_block b c
    high_statement (return e) c = false_true c
    high_statement (call f x es) c = h f c

    pub high_block : (b : Block) → block_calls test b ≡ true → m ≤ block_rank rank b
    high_block done c = false_true c
    high_block (sequence p s b) c = two (statement_calls test s) (block_calls test b) _ _ c (λ q. high_statement s q) (λ q. high_block b q)

-- and where there is a rank, some call leads to it
module _ (rank : ℕ → ℕ) (test : ℕ → Bool) (m : ℕ) (some-rank : 0 < m) (h : (k : ℕ) → rank k ≡ m → test k ≡ true) where
  mutual
    unfolding statement_calls block_calls statement_rank block_rank

    led_statement : (s : Statement) → statement_rank rank s ≡ m → statement_calls test s ≡ true
    led_statement (assign x e) c = absurd (omega arith)
    led_statement (store a i e) c = absurd (omega arith)
    led_statement (conditional k a b) c = either (block_rank rank a) (block_rank rank b) (block_calls test a) (block_calls test b) c (λ q. led_block a q)
        (λ q. led_block b q)
    led_statement (loop x f t b) c = led_block b c
    led_statement (return e) c = absurd (omega arith)
    led_statement (call f x es) c = h f c

    pub led_block : (b : Block) → block_rank rank b ≡ m → block_calls test b ≡ true
    led_block done c = absurd (omega arith)
    led_block (sequence p s b) c = either (statement_rank rank s) (block_rank rank b) (statement_calls test s) (block_calls test b) c (λ q. led_statement
        s q) (λ q. led_block b q)

module _ (ps : List Procedure) where
  -- procedure n with what its calls lead to
  abbrev pub own_and : ℕ → ℕ → ℕ
  own_and n rank = pick (some (variable_fors_in ps n)) (max (32 - n) rank) rank

  -- of procedure f, one of the first n
  unfoldable pub rank_from : ℕ → ℕ → ℕ
  rank_from zero f = 0
  rank_from (suc n) f = pick (eqb f n) (own_and n (block_rank (λ g. rank_from n g) (procedure_at ps n).body)) (rank_from n f)

  pub rank_small : (n f : ℕ) → rank_from n f ≤ 32
  unfolding rank_from
  rank_small zero f = omega arith
  rank_small (suc n) f =
      go (eqb f n) (some (variable_fors_in ps n)) (small_block (λ g. rank_from n g) 32 (λ g. rank_small n g) (procedure_at ps n).body) (rank_small n f)
    where
      go : (b s : Bool) {x y : ℕ} → x ≤ 32 → y ≤ 32 → pick b (pick s (max (32 - n) x) x) y ≤ 32
      go true true h k = omega arith
      go true false h k = h
      go false s h k = k

  -- It is as high as that of any procedure with such a for that is reached,
  pub rank_reached : (n f g : ℕ) → reaches ps n f g ≡ true → some (variable_fors_in ps g) ≡ true → 32 - g ≤ rank_from n f
  unfolding reaches rank_from
  rank_reached zero f g r s = false_true r
  rank_reached (suc n) f g r s = go (eqb f n) r (λ k q. rank_reached n k g q s)
    where
      X : ℕ
      X = block_rank (λ k. rank_from n k) (procedure_at ps n).body

      own : (b : Bool) → 32 - g ≤ X → 32 - g ≤ pick b (max (32 - n) X) X
      own true l = omega arith
      own false l = l

      here : (b : Bool) → eqb g n ≡ b → (b || block_calls (λ k. reaches ps n k g) (procedure_at ps n).body) ≡ true
          → ((k : ℕ) → reaches ps n k g ≡ true → 32 - g ≤ rank_from n k) → 32 - g ≤ own_and n X
      here true e r before = let d : g ≡ n = eqb-true g n e in rw (d, rw d at s) (omega arith)
      here false e r before =
          own (some (variable_fors_in ps n)) (high_block (λ k. rank_from n k) (λ k. reaches ps n k g) (32 - g) before (procedure_at ps n).body r)

      go : (b : Bool) → pick b (eqb g n || block_calls (λ k. reaches ps n k g) (procedure_at ps n).body) (reaches ps n f g) ≡ true
          → ((k : ℕ) → reaches ps n k g ≡ true → 32 - g ≤ rank_from n k) → 32 - g ≤ pick b (own_and n X) (rank_from n f)
      go true r before = here (eqb g n) refl r before
      go false r before = before f r

  -- and it is that of one of them.
  pub rank_found : (n f r : ℕ) → rank_from n f ≡ r → 0 < r → (reaches ps n f (32 - r) ≡ true) × (some (variable_fors_in ps (32 - r)) ≡ true)
  unfolding reaches rank_from
  rank_found zero f r e h = absurd (omega arith)
  rank_found (suc n) f r e h = go (eqb f n) e (λ k q. rank_found n k r q h)
    where
      m : ℕ
      m = 32 - r

      -- what is known of the procedures before n
      Before : Type 0
      Before = (k : ℕ) → rank_from n k ≡ r → (reaches ps n k m ≡ true) × (some (variable_fors_in ps m) ≡ true)

      X : ℕ
      X = block_rank (λ k. rank_from n k) (procedure_at ps n).body

      by_call : Before → X ≡ r → ((eqb m n || block_calls (λ k. reaches ps n k m) (procedure_at ps n).body) ≡ true) × (some (variable_fors_in ps m) ≡
          true)
      by_call before c =
          let body = (procedure_at ps n).body in
          let reached = led_block (λ k. rank_from n k) (λ k. reaches ps n k m) r h (λ k q. (before k q).0) body c in
          let there = led_block (λ k. rank_from n k) (λ k. some (variable_fors_in ps m)) r h (λ k q. (before k q).1) body c in
          (or_right (eqb m n) _ reached, (block_called (λ k. some (variable_fors_in ps m)) body there).2)

      own : Before → (b : Bool) → some (variable_fors_in ps n) ≡ b → pick b (max (32 - n) X) X ≡ r
          → ((eqb m n || block_calls (λ k. reaches ps n k m) (procedure_at ps n).body) ≡ true) × (some (variable_fors_in ps m) ≡ true)
      own before true s c = first (ltb X (32 - n)) refl
        where
          first : (b : Bool) → ltb X (32 - n) ≡ b
              → ((eqb m n || block_calls (λ k. reaches ps n k m) (procedure_at ps n).body) ≡ true) × (some (variable_fors_in ps m) ≡ true)
          first true e =
              let l = ltb-true X (32 - n) e in
              let same : m ≡ n = omega arith in
              (or_left (eqb m n) _ (eq-eqb m n same), rw same s)
          first false e = let l = ltb-false X (32 - n) e in by_call before (omega arith)
      own before false s c = by_call before c

      go : (b : Bool) → pick b (own_and n X) (rank_from n f) ≡ r → Before
          → (pick b (eqb m n || block_calls (λ k. reaches ps n k m) (procedure_at ps n).body) (reaches ps n f m) ≡ true) × (some (variable_fors_in ps m)
          ≡ true)
      go true c before = own before (some (variable_fors_in ps n)) refl c
      go false c before = before f c

  -- ---- the fors of all callees, by number

  module _ (f : ℕ) where
    -- none, where no callee has one
    pub callees_none : (k : ℕ) → ((g : ℕ) → g < k → reaches ps (suc f) f g ≡ true → variable_fors_in ps g ≡ []) → callees_variable_fors ps f k ≡ []
    unfolding callees_variable_fors
    callees_none zero h = refl
    callees_none (suc k) h = rw (callees_none k (λ g l. h g (omega arith))) (last (reaches ps (suc f) f k) refl)
      where
        last : (b : Bool) → reaches ps (suc f) f k ≡ b → pick b (variable_fors_in ps k) [] ≡ []
        last true r = h k (omega arith) r
        last false r = refl

    -- those of the lowest callee that has one come first
    pub callees_first : (m : ℕ) → reaches ps (suc f) f m ≡ true → ((g : ℕ) → g < m → reaches ps (suc f) f g ≡ true → variable_fors_in ps g ≡ [])
        → (k : ℕ) → m < k → (rest : List ℕ) × (callees_variable_fors ps f k ≡ variable_fors_in ps m ++ rest)
    unfolding callees_variable_fors
    callees_first m r h zero l = absurd (omega arith)
    callees_first m r h (suc k) l = go (eqb m k) refl (callees_first m r h k)
      where
        go : (b : Bool) → eqb m k ≡ b → (m < k → (rest : List ℕ) × (callees_variable_fors ps f k ≡ variable_fors_in ps m ++ rest)) → (rest : List ℕ) ×
            (callees_variable_fors ps f (suc k) ≡ variable_fors_in ps m ++ rest)
        go true e before =
            let d : m ≡ k = eqb-true m k e in
            ([], rw (← d, r, callees_none m h) (sym (append-nil (variable_fors_in ps m))))
        go false e before =
            let d = eqb-false m k e in
            let (rest, q) = before (omega arith) in
            (rest ++ pick (reaches ps (suc f) f k) (variable_fors_in ps k) [], rw q (append_assoc (variable_fors_in ps m) rest _))
