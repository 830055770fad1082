-- What each way out of the parts of statements gives, and what each call in them asks. Assumes nothing.
use mathlib.Core.Path.{◌≡◌, refl, sym, ap, ◌∙◌}
use mathlib.Core.List.{List}
use Prim.Native.Nat.{ℕ, ◌<◌}
use native.Mathlib.Omega.{arith}
use lib.ListN.{length}
use Rattle.definitions.specs.Arithmetic.{truth}
use Rattle.definitions.specs.Image.{Expression}
use Rattle.definitions.specs.Reading.{Parse, got, refused, read_expression}
use Rattle.definitions.specs.Running.{Evaluated, value, stop, bind, emit, evaluate as value_of}
use Rattle.laws.specs.Parses.{got_ok, end_of, end_of_lem}
use Rattle.image_words.specs.Read.{ExpressionRead, PairRead}
use Rattle.tables.specs.Table.{Known}
use Rattle.tables.specs.Looking.{image_short}
use Rattle.tracing.specs.Log.{Log, byte_trace}
use Rattle.evaluator.specs.declared.Value.{Value}
use Rattle.evaluator.specs.Cells.{numbered}
use Rattle.evaluator.specs.Evaluation.{found, until, evaluate_at}
use Rattle.evaluator.specs.Results.{tree_end}
use Rattle.simple_statements.specs.declared.Bounds.{Bounds}
use Rattle.simple_statements.specs.Runs.{branch_at, slot_at, range, range_noted, bounds, bounds_at}

-- a place in an image fits an entry
pub place_near : (image table : List ℕ) (at : ℕ) → Known image table → at < length image → at < 268435456
place_near image table at kn h = let s = image_short image table kn in omega arith

-- ---- the condition of an if, the index of a store

module _ (arrays vs cs : List ℕ) (t : Log) (l : ℕ) where
  branch_opened : (x : Parse Expression) → branch_at arrays l vs cs t x
      ≡ bind (evaluate_at arrays vs cs t x) (λ p u. bind (emit byte_trace 1 l (truth p.word) u) (λ b y. value (found b p.next) y))
  unfolding branch_at evaluate_at until
  branch_opened (got e n) = go (value_of byte_trace arrays e vs cs t)
    where
      go : (x : Evaluated Log ℕ)
          → bind (bind x (λ v u. emit byte_trace 1 l (truth v) u)) (λ v y. value (found v n) y)
          ≡ bind (bind x (λ v u. value (found v n) u)) (λ p u. bind (emit byte_trace 1 l (truth p.word) u) (λ b y. value (found b p.next) y))
      go (value v u) = refl
      go (stop i q u) = refl
  branch_opened (refused k p) = refl

  slot_opened : (table : List ℕ) (a : ℕ) (x : Parse Expression) → slot_at arrays table a l vs cs t x
      ≡ bind (evaluate_at arrays vs cs t x) (λ p u. bind (numbered table a l p.word u) (λ b y. value (found b p.next) y))
  unfolding slot_at evaluate_at until
  slot_opened table a (got e n) = go (value_of byte_trace arrays e vs cs t)
    where
      go : (x : Evaluated Log ℕ)
          → bind (bind x (λ v u. numbered table a l v u)) (λ v y. value (found v n) y)
          ≡ bind (bind x (λ v u. value (found v n) u)) (λ p u. bind (numbered table a l p.word u) (λ b y. value (found b p.next) y))
      go (value v u) = refl
      go (stop i q u) = refl
  slot_opened table a (refused k p) = refl

  module _ (x : Parse Expression) (t1 : Log) where
    pub branch_stopped : (i q : ℕ) → stop i q t1 ≡ evaluate_at arrays vs cs t x → stop i q t1 ≡ branch_at arrays l vs cs t x
    branch_stopped i q d = rw (branch_opened, ← d)

    pub slot_stopped : (table : List ℕ) (a i q : ℕ) → stop i q t1 ≡ evaluate_at arrays vs cs t x → stop i q t1 ≡ slot_at arrays table a l vs cs t x
    slot_stopped table a i q d = rw (slot_opened, ← d)

    module _ (p : Value) (d : value p t1 ≡ evaluate_at arrays vs cs t x) (t2 : Log) where
      pub branch_full : (b i q : ℕ) → stop i q t2 ≡ emit byte_trace 1 l b t1 → b ≡ truth p.word → stop i q t2 ≡ branch_at arrays l vs cs t x
      branch_full b i q e h = rw (branch_opened, ← d, ← h, ← e)

      pub branch_noted : (b v : ℕ) → value v t2 ≡ emit byte_trace 1 l b t1 → b ≡ truth p.word → value (found v p.next) t2 ≡ branch_at arrays l vs cs t x
      branch_noted b v e h = rw (branch_opened, ← d, ← h, ← e)

      pub slot_beyond : (table : List ℕ) (a i q : ℕ) → stop i q t2 ≡ numbered table a l p.word t1 → stop i q t2 ≡ slot_at arrays table a l vs cs t x
      slot_beyond table a i q e = rw (slot_opened, ← d, ← e)

      pub slot_noted : (table : List ℕ) (a v : ℕ) → value v t2 ≡ numbered table a l p.word t1 → value (found v p.next) t2 ≡ slot_at arrays table a l vs cs t x
      slot_noted table a v e = rw (slot_opened, ← d, ← e)

-- ---- the bounds of a for

module _ (l v w n : ℕ) (t t1 : Log) where
  pub range_full : (i q : ℕ) → stop i q t1 ≡ emit byte_trace 2 l v t → stop i q t1 ≡ range_noted l v w n t
  unfolding range_noted
  range_full i q d = rw (← d)

  module _ (i : ℕ) (d : value i t1 ≡ emit byte_trace 2 l v t) (t2 : Log) where
    pub range_full2 : (k q : ℕ) → stop k q t2 ≡ emit byte_trace 3 l w t1 → stop k q t2 ≡ range_noted l v w n t
    unfolding range_noted
    range_full2 k q e = rw (← d, ← e)

    pub range_kept : (j : ℕ) → value j t2 ≡ emit byte_trace 3 l w t1 → value (range v w n) t2 ≡ range_noted l v w n t
    unfolding range_noted
    range_kept j e = rw (← d, ← e)

module _ (level : ℕ) (image : List ℕ) (at : ℕ) (g : PairRead level image at) where
  -- both expressions
  pair_trees : (e : Expression) × (n : ℕ) × (f : Expression) × (m : ℕ)
      × (read_expression level image at ≡ got e n) × (read_expression level image n ≡ got f m)
  pair_trees =
      let (e, n, w) = got_ok (read_expression level image at) g.first.read in
      let (f, m, w2) = got_ok (read_expression level image (end_of (read_expression level image at))) g.second.read in
      (e, n, f, m, w, ap (λ (a : ℕ). read_expression level image a) (sym (end_of_lem (read_expression level image at) e n w)) ∙ w2)

  module _ (arrays vs cs : List ℕ) (t : Log) (l : ℕ) where
    bounds_opened : bounds_at arrays l vs cs t (read_expression level image at) (read_expression level image (end_of (read_expression level image at)))
        ≡ bind (evaluate_at arrays vs cs t (read_expression level image at))
        (λ p u. bind (evaluate_at arrays vs cs u (read_expression level image p.next)) (λ r y. range_noted l p.word r.word r.next y))
    unfolding bounds_at bounds evaluate_at until end_of
    bounds_opened = let (e, n, f, m, w, w2) = pair_trees in rw (w, w2) (step f n m w2 (value_of byte_trace arrays e vs cs t))
      where
        step : (f : Expression) (n m : ℕ) → read_expression level image n ≡ got f m → (x : Evaluated Log ℕ)
            → bind x (λ v u. bind (value_of byte_trace arrays f vs cs u) (λ w y. range_noted l v w m y))
            ≡ bind (bind x (λ v u. value (found v n) u))
            (λ p u. bind (evaluate_at arrays vs cs u (read_expression level image p.next)) (λ r y. range_noted l p.word r.word r.next y))
        step f n m h (value v u) = rw h (last m v (value_of byte_trace arrays f vs cs u))
          where
            last : (m v : ℕ) (x : Evaluated Log ℕ)
                → bind x (λ w y. range_noted l v w m y) ≡ bind (bind x (λ w y. value (found w m) y)) (λ r y. range_noted l v r.word r.next y)
            last m v (value w y) = refl
            last m v (stop i q y) = refl
        step f n m h (stop i q u) = refl

    pub from_stopped : (i q : ℕ) (t1 : Log) → stop i q t1 ≡ evaluate_at arrays vs cs t (read_expression level image at)
        → stop i q t1 ≡ bounds_at arrays l vs cs t (read_expression level image at) (read_expression level image (end_of (read_expression level image at)))
    from_stopped i q t1 d = rw (bounds_opened, ← d)

    module _ (p : Value) (t1 : Log) (d : value p t1 ≡ evaluate_at arrays vs cs t (read_expression level image at)) where
      pub second_read : ExpressionRead level image p.next
      second_read = rw (tree_end arrays vs cs t _ g.first.read p t1 d) g.second

      pub to_stopped : (i q : ℕ) (t2 : Log) → stop i q t2 ≡ evaluate_at arrays vs cs t1 (read_expression level image p.next)
          → stop i q t2 ≡ bounds_at arrays l vs cs t (read_expression level image at) (read_expression level image (end_of (read_expression level image at)))
      to_stopped i q t2 f = rw (bounds_opened, ← d, ← f)

      pub bounds_noted : (r : Value) (t2 : Log) → value r t2 ≡ evaluate_at arrays vs cs t1 (read_expression level image p.next)
          → (y : Evaluated Log Bounds) → y ≡ range_noted l p.word r.word r.next t2
          → y ≡ bounds_at arrays l vs cs t (read_expression level image at) (read_expression level image (end_of (read_expression level image at)))
      bounds_noted r t2 f y h = rw (bounds_opened, ← d, ← f) h
