-- What each way out of the evaluation of an expression gives, and what each call in it asks. Assumes nothing.
use mathlib.Core.Path.{◌≡◌, refl}
use mathlib.Core.List.{List}
use Prim.Native.Nat.{ℕ, ◌+◌, ◌-◌, ◌<◌}
use native.Mathlib.Omega.{arith}
use lib.Dec.{eqb}
use lib.ListN.{length, get_or}
use Rattle.definitions.specs.Choice.{pick}
use Rattle.definitions.specs.Operators.{apply_unary}
use Rattle.definitions.specs.Image.{kind_of, payload_of, base_of, Expression}
use Rattle.definitions.specs.Reading.{got, read_expression}
use Rattle.definitions.specs.Running.{Evaluated, value, stop, bind, index_at, operated, evaluate as value_of}
use Rattle.laws.specs.ExpressionInversion.{open_constant, open_raw, open_boolean, open_variable}
use Rattle.laws.specs.ExpressionInversion.{open_cell, open_unary, open_binary, open_select}
use Rattle.laws.specs.ImageIn.{image_in}
use Rattle.image_words.specs.Read.{ExpressionRead}
use Rattle.image_words.specs.Parts.{expression_got}
use Rattle.tables.specs.Table.{Known}
use Rattle.tables.specs.Looking.{image_short}
use Rattle.tracing.specs.Log.{Log, byte_trace}
use Rattle.evaluator.specs.declared.Value.{Value}
use Rattle.evaluator.specs.Cells.{cell_read}
use Rattle.evaluator.specs.Evaluation.{found, until, evaluate_at}
use Rattle.evaluator.specs.Results.{tree_got, tree_stop}
use Rattle.evaluator.specs.CellLaws.{cell_is}

-- a place in an image fits an entry
pub place_small : (l : ℕ) (image table : List ℕ) (at : ℕ) → ExpressionRead l image at → Known image table → at < 268435456
place_small l image table at g kn = let s = image_short image table kn in omega (arith, g.within)

module _ (l : ℕ) (image : List ℕ) (at : ℕ) (g : ExpressionRead l image at) where
  -- ---- what each call asks

  pub raw_there : kind_of (get_or image at 0) ≡ 8 → at + 1 < length image
  raw_there k = (open_raw l image at g.read k).0

  pub index_there : kind_of (get_or image at 0) ≡ 11 → ExpressionRead (l - 1) image (at + 1)
  index_there k = let (i, n, e, q) = open_cell l image at g.read k in expression_got (l - 1) image (at + 1) i n e

  pub operand_there : kind_of (get_or image at 0) ≡ 12 → ExpressionRead (l - 1) image (at + 1)
  operand_there k = let (i, n, e, q) = open_unary l image at g.read k in expression_got (l - 1) image (at + 1) i n e

  pub left_there : kind_of (get_or image at 0) ≡ 13 → ExpressionRead (l - 1) image (at + 1)
  left_there k = let (a, n, b, m, e, f, q) = open_binary l image at g.read k in expression_got (l - 1) image (at + 1) a n e

  pub condition_there : kind_of (get_or image at 0) ≡ 14 → ExpressionRead (l - 1) image (at + 1)
  condition_there k =
      let (c, n, a, m, b, o, e, f, h, q) = open_select l image at g.read k in expression_got (l - 1) image (at + 1) c n e

  module _ (arrays vs cs : List ℕ) (t t1 : Log) (p : Value) (d : value p t1 ≡ evaluate_at arrays vs cs t (read_expression (l - 1) image (at + 1))) where
    pub right_there : kind_of (get_or image at 0) ≡ 13 → ExpressionRead (l - 1) image p.next
    right_there k =
        let (a, n, b, m, e, f, q) = open_binary l image at g.read k in
        let (y, z) = tree_got arrays vs cs t _ a n e p t1 d in
        expression_got (l - 1) image p.next b m (rw z at f)

    pub first_there : kind_of (get_or image at 0) ≡ 14 → ExpressionRead (l - 1) image p.next
    first_there k =
        let (c, n, a, m, b, o, e, f, h, q) = open_select l image at g.read k in
        let (y, z) = tree_got arrays vs cs t _ c n e p t1 d in
        expression_got (l - 1) image p.next a m (rw z at f)

    pub second_there : kind_of (get_or image at 0) ≡ 14 → (t2 : Log) (r : Value)
        → value r t2 ≡ evaluate_at arrays vs cs t1 (read_expression (l - 1) image p.next) → ExpressionRead (l - 1) image r.next
    second_there k t2 r d2 =
        let (c, n, a, m, b, o, e, f, h, q) = open_select l image at g.read k in
        let (y, z) = tree_got arrays vs cs t _ c n e p t1 d in
        let f2 : read_expression (l - 1) image p.next ≡ got a m = rw z at f in
        let (y2, z2) = tree_got arrays vs cs t1 _ a m f2 r t2 d2 in
        expression_got (l - 1) image r.next b o (rw z2 at h)

  -- ---- what each way out gives

  module _ (arrays vs cs : List ℕ) (t : Log) where
    pub variable_got : (p i x : ℕ) → kind_of (get_or image at 0) ≡ 10 → p ≡ payload_of (get_or image at 0) → i ≡ p → x ≡ get_or vs i 0
        → value (found x (at + 1)) t ≡ evaluate_at arrays vs cs t (read_expression l image at)
    unfolding evaluate_at until value_of
    variable_got p i x k hp hi e = rw (open_variable l image at g.read k, e, hi, hp)

    pub constant_got : (p : ℕ) → kind_of (get_or image at 0) ≡ 7 → p ≡ payload_of (get_or image at 0)
        → value (found p (at + 1)) t ≡ evaluate_at arrays vs cs t (read_expression l image at)
    unfolding evaluate_at until value_of
    constant_got p k hp = rw (open_constant l image at g.read k, hp)

    pub boolean_got : (p : ℕ) → kind_of (get_or image at 0) ≡ 9 → p ≡ payload_of (get_or image at 0)
        → value (found p (at + 1)) t ≡ evaluate_at arrays vs cs t (read_expression l image at)
    unfolding evaluate_at until value_of
    boolean_got p k hp = rw (open_boolean l image at g.read k, hp)

    pub raw_got : (x : ℕ) → kind_of (get_or image at 0) ≡ 8 → x ≡ get_or image (at + 1) 0
        → value (found x (at + 2)) t ≡ evaluate_at arrays vs cs t (read_expression l image at)
    unfolding evaluate_at until value_of
    raw_got x k e = let two : at + 2 ≡ at + 1 + 1 = omega arith in rw (two, (open_raw l image at g.read k).2, e)

  pub cell_stopped : (arrays vs cs : List ℕ) (t t1 : Log) (i q : ℕ) → kind_of (get_or image at 0) ≡ 11
      → stop i q t1 ≡ evaluate_at arrays vs cs t (read_expression (l - 1) image (at + 1))
      → stop i q t1 ≡ evaluate_at arrays vs cs t (read_expression l image at)
  unfolding evaluate_at until value_of
  cell_stopped arrays vs cs t t1 i q k d =
      let (e, n, w, h) = open_cell l image at g.read k in
      let stopped : value_of byte_trace arrays e vs cs t ≡ stop i q t1 = tree_stop arrays vs cs t _ e n w i q t1 d in
      rw (h, stopped)

  module _ (table vs cs : List ℕ) (t : Log) (kn : Known image table) (k : kind_of (get_or image at 0) ≡ 11) where
    -- a cell is its index, then what stands there
    cell_opened : evaluate_at (image_in image).arrays vs cs t (read_expression l image at)
        ≡ bind (evaluate_at (image_in image).arrays vs cs t (read_expression (l - 1) image (at + 1)))
        (λ p u. bind (cell_read table cs (payload_of (get_or image at 0)) at p.word u) (λ v x. value (found v p.next) x))
    unfolding evaluate_at until value_of
    cell_opened = let (i, n, e, q) = open_cell l image at g.read k in rw (q, e) (step n (value_of byte_trace (image_in image).arrays i vs cs t))
      where
        step : (n : ℕ) (x : Evaluated Log ℕ)
            → bind (bind x (λ v t₁. bind (index_at byte_trace (image_in image).arrays (payload_of (get_or image at 0)) at v t₁)
            (λ j t₂. value (get_or cs (base_of (image_in image).arrays (payload_of (get_or image at 0)) + j) 0) t₂)))
            (λ v u. value (found v n) u)
            ≡ bind (bind x (λ v u. value (found v n) u))
            (λ p u. bind (cell_read table cs (payload_of (get_or image at 0)) at p.word u) (λ v y. value (found v p.next) y))
        step n (value v u) = rw (cell_is image table kn (payload_of (get_or image at 0)) at v u cs)
        step n (stop i q u) = refl

    module _ (p : Value) (a : ℕ) (t1 t2 : Log) (ha : a ≡ payload_of (get_or image at 0))
        (d : value p t1 ≡ evaluate_at (image_in image).arrays vs cs t (read_expression (l - 1) image (at + 1))) where
      pub cell_beyond : (i q : ℕ) → stop i q t2 ≡ cell_read table cs a at p.word t1
          → stop i q t2 ≡ evaluate_at (image_in image).arrays vs cs t (read_expression l image at)
      cell_beyond i q f = rw (cell_opened, ← d, ← ha, ← f)

      pub cell_there : (x : ℕ) → value x t2 ≡ cell_read table cs a at p.word t1
          → value (found x p.next) t2 ≡ evaluate_at (image_in image).arrays vs cs t (read_expression l image at)
      cell_there x f = rw (cell_opened, ← d, ← ha, ← f)

  module _ (arrays vs cs : List ℕ) (t : Log) where
    module _ (k : kind_of (get_or image at 0) ≡ 12) where
      unary_opened : evaluate_at arrays vs cs t (read_expression l image at)
          ≡ bind (evaluate_at arrays vs cs t (read_expression (l - 1) image (at + 1)))
          (λ p u. value (found (apply_unary (payload_of (get_or image at 0)) p.word) p.next) u)
      unfolding evaluate_at until value_of
      unary_opened = let (i, n, e, q) = open_unary l image at g.read k in rw (q, e) (step n (value_of byte_trace arrays i vs cs t))
        where
          step : (n : ℕ) (x : Evaluated Log ℕ)
              → bind (bind x (λ v t₁. value (apply_unary (payload_of (get_or image at 0)) v) t₁)) (λ v u. value (found v n) u)
              ≡ bind (bind x (λ v u. value (found v n) u))
              (λ p u. value (found (apply_unary (payload_of (get_or image at 0)) p.word) p.next) u)
          step n (value v u) = refl
          step n (stop i q u) = refl

      pub unary_stopped : (i q : ℕ) (t1 : Log) → stop i q t1 ≡ evaluate_at arrays vs cs t (read_expression (l - 1) image (at + 1))
          → stop i q t1 ≡ evaluate_at arrays vs cs t (read_expression l image at)
      unary_stopped i q t1 d = rw (unary_opened, ← d)

      pub unary_got : (p : Value) (o x : ℕ) (t1 : Log) → value p t1 ≡ evaluate_at arrays vs cs t (read_expression (l - 1) image (at + 1))
          → x ≡ apply_unary o p.word → o ≡ payload_of (get_or image at 0)
          → value (found x p.next) t1 ≡ evaluate_at arrays vs cs t (read_expression l image at)
      unary_got p o x t1 d e ho = rw (unary_opened, ← d, e, ho)

    module _ (k : kind_of (get_or image at 0) ≡ 13) where
      binary_opened : evaluate_at arrays vs cs t (read_expression l image at)
          ≡ bind (evaluate_at arrays vs cs t (read_expression (l - 1) image (at + 1)))
          (λ p u. bind (evaluate_at arrays vs cs u (read_expression (l - 1) image p.next))
          (λ r x. bind (operated byte_trace at (payload_of (get_or image at 0)) p.word r.word x) (λ v y. value (found v r.next) y)))
      unfolding evaluate_at until value_of
      binary_opened = let (a, n, b, m, e, f, q) = open_binary l image at g.read k in rw (q, e) (step b n m f (value_of byte_trace arrays a vs cs t))
        where
          step : (b : Expression) (n m : ℕ) → read_expression (l - 1) image n ≡ got b m → (x : Evaluated Log ℕ)
              → bind (bind x (λ v t₁. bind (value_of byte_trace arrays b vs cs t₁) (λ w t₂. operated byte_trace at (payload_of (get_or image at 0)) v w t₂)))
              (λ v u. value (found v m) u)
              ≡ bind (bind x (λ v u. value (found v n) u))
              (λ p u. bind (evaluate_at arrays vs cs u (read_expression (l - 1) image p.next))
              (λ r y. bind (operated byte_trace at (payload_of (get_or image at 0)) p.word r.word y) (λ v z. value (found v r.next) z)))
          step b n m f (value v u) = rw f (last m v (value_of byte_trace arrays b vs cs u))
            where
              last : (m v : ℕ) (x : Evaluated Log ℕ)
                  → bind (bind x (λ w t₂. operated byte_trace at (payload_of (get_or image at 0)) v w t₂)) (λ w u. value (found w m) u)
                  ≡ bind (bind x (λ w u. value (found w m) u))
                  (λ r y. bind (operated byte_trace at (payload_of (get_or image at 0)) v r.word y) (λ w z. value (found w r.next) z))
              last m v (value w u) = refl
              last m v (stop i q u) = refl
          step b n m f (stop i q u) = refl

      pub left_stopped : (i q : ℕ) (t1 : Log) → stop i q t1 ≡ evaluate_at arrays vs cs t (read_expression (l - 1) image (at + 1))
          → stop i q t1 ≡ evaluate_at arrays vs cs t (read_expression l image at)
      left_stopped i q t1 d = rw (binary_opened, ← d)

      module _ (p : Value) (t1 : Log) (d : value p t1 ≡ evaluate_at arrays vs cs t (read_expression (l - 1) image (at + 1))) (t2 : Log) where
        pub right_stopped : (i q : ℕ) → stop i q t2 ≡ evaluate_at arrays vs cs t1 (read_expression (l - 1) image p.next)
            → stop i q t2 ≡ evaluate_at arrays vs cs t (read_expression l image at)
        right_stopped i q f = rw (binary_opened, ← d, ← f)

        module _ (r : Value) (f : value r t2 ≡ evaluate_at arrays vs cs t1 (read_expression (l - 1) image p.next)) (o : ℕ)
            (ho : o ≡ payload_of (get_or image at 0)) (t3 : Log) where
          pub operator_stopped : (i q : ℕ) → stop i q t3 ≡ operated byte_trace at o p.word r.word t2
              → stop i q t3 ≡ evaluate_at arrays vs cs t (read_expression l image at)
          operator_stopped i q h = rw (binary_opened, ← d, ← f, ← ho, ← h)

          pub binary_done : (x : ℕ) → value x t3 ≡ operated byte_trace at o p.word r.word t2
              → value (found x r.next) t3 ≡ evaluate_at arrays vs cs t (read_expression l image at)
          binary_done x h = rw (binary_opened, ← d, ← f, ← ho, ← h)

    module _ (k : kind_of (get_or image at 0) ≡ 14) where
      select_opened : evaluate_at arrays vs cs t (read_expression l image at)
          ≡ bind (evaluate_at arrays vs cs t (read_expression (l - 1) image (at + 1)))
          (λ p u. bind (evaluate_at arrays vs cs u (read_expression (l - 1) image p.next))
          (λ r x. bind (evaluate_at arrays vs cs x (read_expression (l - 1) image r.next))
          (λ s y. value (found (pick (eqb p.word 0) s.word r.word) s.next) y)))
      unfolding evaluate_at until value_of
      select_opened =
          let (c, n, a, m, b, o, e, f, h, q) = open_select l image at g.read k in
          rw (q, e) (step a b n m o f h (value_of byte_trace arrays c vs cs t))
        where
          last : (b : Expression) (n o v w : ℕ) → read_expression (l - 1) image n ≡ got b o → (u : Log)
              → bind (bind (value_of byte_trace arrays b vs cs u) (λ z t₃. value (pick (eqb v 0) z w) t₃)) (λ z y. value (found z o) y)
              ≡ bind (evaluate_at arrays vs cs u (read_expression (l - 1) image n))
              (λ s y. value (found (pick (eqb v 0) s.word w) s.next) y)
          last b n o v w h u = rw h (go (value_of byte_trace arrays b vs cs u))
            where
              go : (x : Evaluated Log ℕ)
                  → bind (bind x (λ z t₃. value (pick (eqb v 0) z w) t₃)) (λ z y. value (found z o) y)
                  ≡ bind (bind x (λ z y. value (found z o) y))
                  (λ s y. value (found (pick (eqb v 0) s.word w) s.next) y)
              go (value z y) = refl
              go (stop i q y) = refl

          middle : (a b : Expression) (n m o v : ℕ) → read_expression (l - 1) image n ≡ got a m → read_expression (l - 1) image m ≡ got b o → (u : Log)
              → bind (bind (value_of byte_trace arrays a vs cs u)
              (λ w t₂. bind (value_of byte_trace arrays b vs cs t₂) (λ z t₃. value (pick (eqb v 0) z w) t₃))) (λ z y. value (found z o) y)
              ≡ bind (evaluate_at arrays vs cs u (read_expression (l - 1) image n))
              (λ r x. bind (evaluate_at arrays vs cs x (read_expression (l - 1) image r.next))
              (λ s y. value (found (pick (eqb v 0) s.word r.word) s.next) y))
          middle a b n m o v f h u = rw f (go (value_of byte_trace arrays a vs cs u))
            where
              go : (x : Evaluated Log ℕ)
                  → bind (bind x (λ w t₂. bind (value_of byte_trace arrays b vs cs t₂) (λ z t₃. value (pick (eqb v 0) z w) t₃)))
                  (λ z y. value (found z o) y)
                  ≡ bind (bind x (λ w y. value (found w m) y))
                  (λ r x. bind (evaluate_at arrays vs cs x (read_expression (l - 1) image r.next))
                  (λ s y. value (found (pick (eqb v 0) s.word r.word) s.next) y))
              go (value w y) = last b m o v w h y
              go (stop i q y) = refl

          step : (a b : Expression) (n m o : ℕ) → read_expression (l - 1) image n ≡ got a m → read_expression (l - 1) image m ≡ got b o → (x : Evaluated Log ℕ)
              → bind (bind x (λ v t₁. bind (value_of byte_trace arrays a vs cs t₁)
              (λ w t₂. bind (value_of byte_trace arrays b vs cs t₂) (λ z t₃. value (pick (eqb v 0) z w) t₃)))) (λ z y. value (found z o) y)
              ≡ bind (bind x (λ v y. value (found v n) y))
              (λ p u. bind (evaluate_at arrays vs cs u (read_expression (l - 1) image p.next))
              (λ r x. bind (evaluate_at arrays vs cs x (read_expression (l - 1) image r.next))
              (λ s y. value (found (pick (eqb p.word 0) s.word r.word) s.next) y)))
          step a b n m o f h (value v u) = middle a b n m o v f h u
          step a b n m o f h (stop i q u) = refl

      pub condition_stopped : (i q : ℕ) (t1 : Log) → stop i q t1 ≡ evaluate_at arrays vs cs t (read_expression (l - 1) image (at + 1))
          → stop i q t1 ≡ evaluate_at arrays vs cs t (read_expression l image at)
      condition_stopped i q t1 d = rw (select_opened, ← d)

      module _ (p : Value) (t1 : Log) (d : value p t1 ≡ evaluate_at arrays vs cs t (read_expression (l - 1) image (at + 1))) (t2 : Log) where
        pub first_stopped : (i q : ℕ) → stop i q t2 ≡ evaluate_at arrays vs cs t1 (read_expression (l - 1) image p.next)
            → stop i q t2 ≡ evaluate_at arrays vs cs t (read_expression l image at)
        first_stopped i q f = rw (select_opened, ← d, ← f)

        module _ (r : Value) (f : value r t2 ≡ evaluate_at arrays vs cs t1 (read_expression (l - 1) image p.next)) (t3 : Log) where
          pub second_stopped : (i q : ℕ) → stop i q t3 ≡ evaluate_at arrays vs cs t2 (read_expression (l - 1) image r.next)
              → stop i q t3 ≡ evaluate_at arrays vs cs t (read_expression l image at)
          second_stopped i q h = rw (select_opened, ← d, ← f, ← h)

          pub select_done : (s : Value) (x : ℕ) → value s t3 ≡ evaluate_at arrays vs cs t2 (read_expression (l - 1) image r.next)
              → x ≡ pick (eqb p.word 0) s.word r.word
              → value (found x s.next) t3 ≡ evaluate_at arrays vs cs t (read_expression l image at)
          select_done s x h e = rw (select_opened, ← d, ← f, ← h, e)
