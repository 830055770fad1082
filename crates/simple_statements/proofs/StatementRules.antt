-- What each way out of assign, store and return gives, and what each call in them asks. Assumes nothing.
use mathlib.Core.Path.{◌≡◌, refl}
use mathlib.Core.List.{List}
use Prim.Native.Nat.{ℕ, ◌+◌, ◌-◌}
use lib.ListN.{get_or, set}
use Rattle.definitions.specs.Image.{op_of, target_of, base_of, Expression}
use Rattle.definitions.specs.Reading.{got, read_expression, read_statement}
use Rattle.definitions.specs.Running.{Evaluated, value, stop, bind, within, emit, index_at, on, halt, next, back, run_statement}
use Rattle.definitions.specs.Running.{run_block, and_go, Ran as Run, evaluate as value_of}
use Rattle.laws.specs.ImageIn.{image_in}
use Rattle.laws.specs.StatementInversion.{open_assign, open_store, open_return}
use Rattle.image_words.specs.Read.{ExpressionRead, StatementRead}
use Rattle.image_words.specs.Parts.{expression_got}
use Rattle.tables.specs.Table.{Known}
use Rattle.tracing.specs.Log.{Log, byte_trace}
use Rattle.evaluator.specs.declared.Value.{Value}
use Rattle.evaluator.specs.Cells.{numbered}
use Rattle.evaluator.specs.CellLaws.{numbered_is}
use Rattle.evaluator.specs.Evaluation.{found, until, evaluate_at}
use Rattle.evaluator.specs.Results.{until_got}
use Rattle.simple_statements.specs.Runs.{Went, went, gone, placed, ending, statement_at, slot_at}

module _ (l : ℕ) (image params : List ℕ) (me at : ℕ) (g : StatementRead l params me image at) where
  pub assign_read : op_of (get_or image at 0) ≡ 0 → ExpressionRead (l - 1) image (at + 1)
  assign_read h = let (e, n, w, p) = open_assign l params me image at g.read h in expression_got (l - 1) image (at + 1) e n w

  pub return_read : op_of (get_or image at 0) ≡ 4 → ExpressionRead (l - 1) image (at + 1)
  return_read h = let (e, n, w, p) = open_return l params me image at g.read h in expression_got (l - 1) image (at + 1) e n w

  pub store_read : op_of (get_or image at 0) ≡ 1 → ExpressionRead (l - 1) image (at + 1)
  store_read h = let (i, n, e, m, w, v, p) = open_store l params me image at g.read h in expression_got (l - 1) image (at + 1) i n w

module _ (l : ℕ) (image params : List ℕ) (me at : ℕ) (g : StatementRead l params me image at) (budget : ℕ) (vs cs : List ℕ) (t : Log) (z : ℕ) where
  -- the run of the statement
  abbrev defined : Run Log Went
  defined = statement_at budget (image_in image) me at z t vs cs (read_statement l params me image at)

  -- the evaluation of its first expression
  abbrev evaluated : Evaluated Log Value
  evaluated = evaluate_at (image_in image).arrays vs cs t (read_expression (l - 1) image (at + 1))

  module _ (h : op_of (get_or image at 0) ≡ 0) where
    assign_opened : defined ≡ within z evaluated (λ p u. on (went p.next (set vs (target_of (get_or image at 0)) p.word) cs) z u)
    unfolding statement_at ending placed run_statement run_block evaluate_at until
    assign_opened = let (e, n, w, p) = open_assign l params me image at g.read h in rw (p, w) (step n (value_of byte_trace (image_in image).arrays e vs cs t))
      where
        step : (n : ℕ) (x : Evaluated Log ℕ)
            → and_go (within z x (λ v u. on (next (set vs (target_of (get_or image at 0)) v) cs) z u)) (placed n)
            ≡ within z (bind x (λ v u. value (found v n) u)) (λ p u. on (went p.next (set vs (target_of (get_or image at 0)) p.word) cs) z u)
        step n (value v u) = refl
        step n (stop i q u) = refl

    pub assign_stopped : (i q : ℕ) (t1 : Log) → stop i q t1 ≡ evaluated → halt i q z t1 ≡ defined
    assign_stopped i q t1 d = rw (assign_opened, ← d)

    pub assign_done : (p : Value) (t1 : Log) → value p t1 ≡ evaluated → (vs1 : List ℕ) (b x : ℕ) → vs1 ≡ set vs b p.word → b ≡ x
        → x ≡ target_of (get_or image at 0) → on (went p.next vs1 cs) z t1 ≡ defined
    assign_done p t1 d vs1 b x f hb hx = rw (assign_opened, ← d, f, hb, hx)

  module _ (h : op_of (get_or image at 0) ≡ 4) where
    return_opened : defined ≡ within z evaluated (λ p u. within z (emit byte_trace 8 at 0 u) (λ b y. on (gone p.word cs) z y))
    unfolding statement_at ending placed run_statement run_block evaluate_at until
    return_opened = let (e, n, w, p) = open_return l params me image at g.read h in rw (p, w) (step n (value_of byte_trace (image_in image).arrays e vs cs t))
      where
        last : (n v : ℕ) (x : Evaluated Log ℕ)
            → and_go (within z x (λ b y. on (back v cs) z y)) (placed n) ≡ within z x (λ b y. on (gone v cs) z y)
        last n v (value b y) = refl
        last n v (stop i q y) = refl

        step : (n : ℕ) (x : Evaluated Log ℕ)
            → and_go (within z x (λ v u. within z (emit byte_trace 8 at 0 u) (λ b y. on (back v cs) z y))) (placed n)
            ≡ within z (bind x (λ v u. value (found v n) u)) (λ p u. within z (emit byte_trace 8 at 0 u) (λ b y. on (gone p.word cs) z y))
        step n (value v u) = last n v (emit byte_trace 8 at 0 u)
        step n (stop i q u) = refl

    pub return_stopped : (i q : ℕ) (t1 : Log) → stop i q t1 ≡ evaluated → halt i q z t1 ≡ defined
    return_stopped i q t1 d = rw (return_opened, ← d)

    module _ (p : Value) (t1 : Log) (d : value p t1 ≡ evaluated) (t2 : Log) where
      pub return_full : (i q : ℕ) → stop i q t2 ≡ emit byte_trace 8 at 0 t1 → halt i q z t2 ≡ defined
      return_full i q e = rw (return_opened, ← d, ← e)

      pub return_done : (b : ℕ) → value b t2 ≡ emit byte_trace 8 at 0 t1 → on (gone p.word cs) z t2 ≡ defined
      return_done b e = rw (return_opened, ← d, ← e)

  -- the array of a store
  abbrev array : ℕ
  array = target_of (get_or image at 0)

  module _ (h : op_of (get_or image at 0) ≡ 1) where
    module _ (table : List ℕ) (kn : Known image table) where
      -- the number of its cell
      abbrev slotted : ℕ → Evaluated Log Value
      slotted a = slot_at (image_in image).arrays table a at vs cs t (read_expression (l - 1) image (at + 1))

      store_opened : defined ≡ within z (slotted array)
          (λ p u. within z (evaluate_at (image_in image).arrays vs cs u (read_expression (l - 1) image p.next))
          (λ r y. on (went r.next vs (set cs p.word r.word)) z y))
      unfolding statement_at ending placed run_statement run_block slot_at evaluate_at until
      store_opened =
          let (i, n, e, m, w, v, p) = open_store l params me image at g.read h in
          rw (p, w) (step e n m v (value_of byte_trace (image_in image).arrays i vs cs t))
        where
          last : (m j : ℕ) (x : Evaluated Log ℕ)
              → and_go (within z x (λ w y. on (next vs (set cs (base_of (image_in image).arrays array + j) w)) z y)) (placed m)
              ≡ within z (bind x (λ w y. value (found w m) y)) (λ r y. on (went r.next vs (set cs (base_of (image_in image).arrays array + j) r.word)) z y)
          last m j (value w y) = refl
          last m j (stop i q y) = refl

          middle : (e : Expression) (n m : ℕ) → read_expression (l - 1) image n ≡ got e m → (x : Evaluated Log ℕ)
              → and_go (within z x (λ j u. within z (value_of byte_trace (image_in image).arrays e vs cs u)
              (λ w y. on (next vs (set cs (base_of (image_in image).arrays array + j) w)) z y))) (placed m)
              ≡ within z (bind (bind x (λ j u. value (base_of (image_in image).arrays array + j) u)) (λ w y. value (found w n) y))
              (λ p u. within z (evaluate_at (image_in image).arrays vs cs u (read_expression (l - 1) image p.next))
              (λ r y. on (went r.next vs (set cs p.word r.word)) z y))
          middle e n m f (value j u) = rw f (last m j (value_of byte_trace (image_in image).arrays e vs cs u))
          middle e n m f (stop i q u) = refl

          step : (e : Expression) (n m : ℕ) → read_expression (l - 1) image n ≡ got e m → (x : Evaluated Log ℕ)
              → and_go (within z x (λ v u. within z (index_at byte_trace (image_in image).arrays array at v u)
              (λ j u₁. within z (value_of byte_trace (image_in image).arrays e vs cs u₁)
              (λ w y. on (next vs (set cs (base_of (image_in image).arrays array + j) w)) z y)))) (placed m)
              ≡ within z (bind (bind x (λ v u. numbered table array at v u)) (λ w y. value (found w n) y))
              (λ p u. within z (evaluate_at (image_in image).arrays vs cs u (read_expression (l - 1) image p.next))
              (λ r y. on (went r.next vs (set cs p.word r.word)) z y))
          step e n m f (value v u) = rw (numbered_is image table kn array at v u) (middle e n m f (index_at byte_trace (image_in image).arrays array at v u))
          step e n m f (stop i q u) = refl

      module _ (a : ℕ) (ha : a ≡ target_of (get_or image at 0)) where
        pub store_stopped : (i q : ℕ) (t1 : Log) → stop i q t1 ≡ slotted a → halt i q z t1 ≡ defined
        store_stopped i q t1 d = rw (store_opened, ← ha, ← d)

        module _ (p : Value) (t1 : Log) (d : value p t1 ≡ slotted a) where
          pub stored_read : ExpressionRead (l - 1) image p.next
          unfolding slot_at
          stored_read =
              let (i, n, e, m, w, v, q) = open_store l params me image at g.read h in
              let f : value p t1 ≡ until n (bind (value_of byte_trace (image_in image).arrays i vs cs t) (λ v u. numbered table a at v u)) = rw w at d in
              let (y, k) = until_got p t1 n _ f in
              expression_got (l - 1) image p.next e m (rw k at v)

          module _ (t2 : Log) where
            pub store_stopped2 : (i q : ℕ) → stop i q t2 ≡ evaluate_at (image_in image).arrays vs cs t1 (read_expression (l - 1) image p.next)
                → halt i q z t2 ≡ defined
            store_stopped2 i q e = rw (store_opened, ← ha, ← d, ← e)

            pub store_done : (r : Value) (cs1 : List ℕ) (b : ℕ) → value r t2 ≡ evaluate_at (image_in image).arrays vs cs t1 (read_expression (l - 1) image p.next)
                → cs1 ≡ set cs b r.word → b ≡ p.word → on (went r.next vs cs1) z t2 ≡ defined
            store_done r cs1 b e f hb = rw (store_opened, ← ha, ← d, ← e, f, hb)
