-- What each way out of an if and a for gives, and what each call in them asks. Assumes nothing.
use mathlib.Core.Path.{◌≡◌, refl, sym, ap, ◌∙◌}
use mathlib.Core.List.{List}
use Prim.Native.Nat.{ℕ, ◌+◌, ◌-◌}
use borrow.Author.Tests.{eq-eqb, ne_eqb}
use lib.ListN.{get_or}
use Rattle.std.specs.Prelude.{Ok}
use Rattle.definitions.specs.Arithmetic.{truth}
use Rattle.definitions.specs.Image.{op_of, target_of, Expression, conditional, loop, Block}
use Rattle.definitions.specs.Reading.{got, read_expression, read_statement, read_block}
use Rattle.definitions.specs.Running.{Evaluated, value, stop, bind, within, emit, taken, passes, on, halt, Outcome, next, back, run_statement}
use Rattle.definitions.specs.Running.{run_block, Ran as Run, evaluate as value_of}
use Rattle.laws.specs.ImageIn.{image_in}
use Rattle.laws.specs.Parses.{end_of, end_of_lem}
use Rattle.laws.specs.StatementInversion.{open_if, open_for}
use Rattle.image_words.specs.Read.{PairRead, ExpressionRead, StatementRead, BlockRead}
use Rattle.image_words.specs.Parts.{expression_got, pair_got}
use Rattle.image_words.specs.StatementParts.{block_got}
use Rattle.tracing.specs.Log.{Log, byte_trace}
use Rattle.tracing.specs.Answers.{logged}
use Rattle.evaluator.specs.declared.Value.{Value}
use Rattle.evaluator.specs.Evaluation.{until}
use Rattle.evaluator.specs.Results.{until_got, until_stop}
use Rattle.simple_statements.specs.declared.Ran.{Ran}
use Rattle.simple_statements.specs.declared.Ran.TheVariants.{On, Back}
use Rattle.simple_statements.specs.declared.Bounds.{Bounds}
use Rattle.simple_statements.specs.declared.State.{State}
use Rattle.simple_statements.specs.Runs.{Went, went, gone, finished, placed, ending, callees, statement_at, branch_at, range, range_noted, bounds, bounds_at}
use Rattle.runner.specs.Runs.{block_at, passes_at}
use Rattle.runner.proofs.BlockRules.{block_end}

-- two evaluations in a run are one
within_two : {A B C : Type 0} (z : ℕ) (x : Evaluated Log A) (f : A → Log → Evaluated Log B) (g : B → Log → Run Log C)
    → within z x (λ a t. within z (f a t) g) ≡ within z (bind x f) g
within_two z (value a t) f g = refl
within_two z (stop n q t) f g = refl

-- a run that does not go on is the same wherever it would
same_halt : (n m j q z : ℕ) (t : Log) (x : Run Log Outcome) → halt j q z t ≡ ending n x → halt j q z t ≡ ending m x
unfolding ending placed
same_halt n m j q z t (on (next vs cs) y s) d = cc
same_halt n m j q z t (on (back v cs) y s) d = cc
same_halt n m j q z t (halt a b y s) d = d

same_return : (n m v : ℕ) (cs : List ℕ) (z : ℕ) (t : Log) (x : Run Log Outcome) → on (gone v cs) z t ≡ ending n x → on (gone v cs) z t ≡ ending m x
unfolding ending placed
same_return n m v cs z t (on (next us ds) y s) d = cc
same_return n m v cs z t (on (back u ds) y s) d = d
same_return n m v cs z t (halt a b y s) d = cc

-- one that goes on goes on where it is said
placed_on : (n m c : ℕ) (vs cs : List ℕ) (z : ℕ) (t : Log) (x : Run Log Outcome) → on (went c vs cs) z t ≡ ending n x → (n ≡ c) × (on (went m vs cs) z t ≡ ending m x)
unfolding ending placed
placed_on n m c vs cs z t (on (next us ds) y s) d = (cc, cc)
placed_on n m c vs cs z t (on (back u ds) y s) d = (cc, cc)
placed_on n m c vs cs z t (halt a b y s) d = (cc, cc)

-- ---- if

module _ (l : ℕ) (image params : List ℕ) (me at : ℕ) (g : StatementRead l params me image at) (h : op_of (get_or image at 0) ≡ 2) where
  pub condition_read : ExpressionRead (l - 1) image (at + 1)
  condition_read = let (c, n, a, m, b, o, w, w1, w2, p) = open_if l params me image at g.read h in expression_got (l - 1) image (at + 1) c n w

  module _ (vs cs : List ℕ) (t : Log) where
    -- the condition and its entry, as the code tests it and as the definition does
    abbrev tested : Evaluated Log Value
    tested = branch_at (image_in image).arrays at vs cs t (read_expression (l - 1) image (at + 1))

    abbrev condition : Expression → Evaluated Log ℕ
    condition c = bind (value_of byte_trace (image_in image).arrays c vs cs t) (λ v u. emit byte_trace 1 at (truth v) u)

    at_condition : (c : Expression) (n : ℕ) → read_expression (l - 1) image (at + 1) ≡ got c n → tested ≡ until n (condition c)
    unfolding branch_at
    at_condition c n w = rw w

    module _ (p : Value) (t1 : Log) (d : value p t1 ≡ tested) where
      -- both arms, where the code knows them
      arms : (c : Expression) × (x : Block) × (m : ℕ) × (y : Block) × (o : ℕ) × (condition c ≡ value p.word t1)
          × (read_block (l - 1) params me image p.next ≡ got x m) × (read_block (l - 1) params me image m ≡ got y o)
          × (read_statement l params me image at ≡ got (conditional c x y) o)
      arms =
          let (c, n, x, m, y, o, w, w1, w2, q) = open_if l params me image at g.read h in
          let (f, e) = until_got p t1 n (condition c) (d ∙ at_condition c n w) in
          (c, x, m, y, o, f, ap (λ (b : ℕ). read_block (l - 1) params me image b) (sym e) ∙ w1, w2, q)

      pub then_read : BlockRead (l - 1) params me image p.next
      then_read = let (c, x, m, y, o, f, w1, w2, q) = arms in block_got (l - 1) params me image p.next x m w1

      pub else_read : (start : ℕ) → start ≡ end_of (read_block (l - 1) params me image p.next) → BlockRead (l - 1) params me image start
      else_read start e =
          let (c, x, m, y, o, f, w1, w2, q) = arms in
          let a : start ≡ m = e ∙ end_of_lem _ x m w1 in
          block_got (l - 1) params me image start y o (ap (λ (b : ℕ). read_block (l - 1) params me image b) a ∙ w2)

    module _ (budget z : ℕ) where
      -- the run of the statement
      abbrev defined : Run Log Went
      defined = statement_at budget (image_in image) me at z t vs cs (read_statement l params me image at)

      if_run : (c : Expression) (x y : Block)
          → run_statement byte_trace budget (image_in image).arrays (callees budget (image_in image) me) at (conditional c x y) z t vs cs
          ≡ within z (condition c)
          (λ b u. taken b (λ p w us ds. run_block byte_trace budget (image_in image).arrays (callees budget (image_in image) me) x p w us ds)
          (λ p w us ds. run_block byte_trace budget (image_in image).arrays (callees budget (image_in image) me) y p w us ds) z u vs cs)
      unfolding run_statement run_block
      if_run c x y =
          within_two z (value_of byte_trace (image_in image).arrays c vs cs t) (λ v u. emit byte_trace 1 at (truth v) u)
          (λ b u. taken b (λ p w us ds. run_block byte_trace budget (image_in image).arrays (callees budget (image_in image) me) x p w us ds)
          (λ p w us ds. run_block byte_trace budget (image_in image).arrays (callees budget (image_in image) me) y p w us ds) z u vs cs)

      pub if_stopped : (i q : ℕ) (t1 : Log) → stop i q t1 ≡ tested → halt i q z t1 ≡ defined
      unfolding statement_at ending
      if_stopped i q t1 d =
          let (c, n, a, m, b, o, w, w1, w2, p) = open_if l params me image at g.read h in
          rw (p, if_run c a b, until_stop i q t1 n (condition c) (d ∙ at_condition c n w))

      module _ (p : Value) (t1 : Log) (d : value p t1 ≡ tested) where
        pub else_done : (start : ℕ) → start ≡ end_of (read_block (l - 1) params me image p.next) → p.word ≡ 0
            → (y : Run Log Went) → y ≡ block_at budget (image_in image) me z t1 vs cs (read_block (l - 1) params me image start) → y ≡ defined
        unfolding statement_at block_at taken
        else_done start e zero v d2 =
            let (c, x, m, y, o, f, w1, w2, q) = arms p t1 d in
            let a : start ≡ m = e ∙ end_of_lem _ x m w1 in
            let w3 : read_block (l - 1) params me image start ≡ got y o = ap (λ (b : ℕ). read_block (l - 1) params me image b) a ∙ w2 in
            rw (q, if_run c x y, f, eq-eqb p.word 0 zero) (rw w3 at d2)

        module _ (other : p.word ≡ 0 → ⊥) where
          -- the run of the first arm
          abbrev first_arm : Run Log Went
          first_arm = block_at budget (image_in image) me z t1 vs cs (read_block (l - 1) params me image p.next)

          pub then_stopped : (i q z2 : ℕ) (t2 : Log) → halt i q z2 t2 ≡ first_arm → halt i q z2 t2 ≡ defined
          unfolding statement_at block_at taken
          then_stopped i q z2 t2 d2 =
              let (c, x, m, y, o, f, w1, w2, k) = arms p t1 d in
              rw (k, if_run c x y, f, ne_eqb p.word 0 other) (same_halt m o i q z2 t2 _ (rw w1 at d2))

          module _ (r : Ran) (vs2 : List ℕ) (st : State) (d2 : finished (Ok r) vs2 st ≡ first_arm) where
            pub then_returned : (v : ℕ) → r ≡ Back v → on (gone v st.cells.now) st.steps (logged st.trace.now) ≡ defined
            unfolding statement_at block_at taken
            then_returned v e =
                let (c, x, m, y, o, f, w1, w2, k) = arms p t1 d in
                let d3 : on (gone v st.cells.now) st.steps (logged st.trace.now) ≡ first_arm = rw e at d2 in
                rw (k, if_run c x y, f, ne_eqb p.word 0 other) (same_return m o v st.cells.now st.steps (logged st.trace.now) _ (rw w1 at d3))

            pub else_passed : (a : ℕ) → r ≡ On a → BlockRead (l - 1) params me image a
            else_passed a e =
                let d3 : on (went a vs2 st.cells.now) st.steps (logged st.trace.now) ≡ first_arm = rw e at d2 in
                else_read p t1 d a (block_end budget (image_in image) me z t1 vs cs _ (then_read p t1 d).read a vs2 st.cells.now st.steps (logged st.trace.now) d3)

            pub then_done : (a end : ℕ) → r ≡ On a → end ≡ end_of (read_block (l - 1) params me image a)
                → on (went end vs2 st.cells.now) st.steps (logged st.trace.now) ≡ defined
            unfolding statement_at block_at taken
            then_done a end e h2 =
                let (c, x, m, y, o, f, w1, w2, k) = arms p t1 d in
                let d3 : on (went a vs2 st.cells.now) st.steps (logged st.trace.now) ≡ first_arm = rw e at d2 in
                let (e2, d4) = placed_on m o a vs2 st.cells.now st.steps (logged st.trace.now) _ (rw w1 at d3) in
                let w3 : read_block (l - 1) params me image a ≡ got y o = ap (λ (b : ℕ). read_block (l - 1) params me image b) (sym e2) ∙ w2 in
                let e3 : end ≡ o = h2 ∙ end_of_lem _ y o w3 in
                rw (k, if_run c x y, f, ne_eqb p.word 0 other, e3) d4

-- ---- for

module _ (z n : ℕ) (k : ℕ → ℕ → Log → Run Log Outcome) where
  last : (x : Evaluated Log ℕ) (v w : ℕ) → within z x (λ j s. k v w s) ≡ within z (bind x (λ j s. value (range v w n) s)) (λ b s. k b.from b.to s)
  last (value j s) v w = refl
  last (stop i q s) v w = refl

  third : (x : Evaluated Log ℕ) (b : ℕ → Log → Evaluated Log ℕ) (v w : ℕ)
      → within z x (λ i r. within z (b w r) (λ j s. k v w s)) ≡ within z (bind x (λ i r. bind (b w r) (λ j s. value (range v w n) s))) (λ b s. k b.from b.to s)
  third (value i r) b v w = last (b w r) v w
  third (stop i q r) b v w = refl

  second : (x : Evaluated Log ℕ) (a b : ℕ → Log → Evaluated Log ℕ) (v : ℕ)
      → within z x (λ w q. within z (a v q) (λ i r. within z (b w r) (λ j s. k v w s)))
      ≡ within z (bind x (λ w q. bind (a v q) (λ i r. bind (b w r) (λ j s. value (range v w n) s)))) (λ b s. k b.from b.to s)
  second (value w q) a b v = third (a v q) b v w
  second (stop i p q) a b v = refl

  first : (x : Evaluated Log ℕ) (y : Log → Evaluated Log ℕ) (a b : ℕ → Log → Evaluated Log ℕ)
      → within z x (λ v u. within z (y u) (λ w q. within z (a v q) (λ i r. within z (b w r) (λ j s. k v w s))))
      ≡ within z (bind x (λ v u. bind (y u) (λ w q. bind (a v q) (λ i r. bind (b w r) (λ j s. value (range v w n) s))))) (λ b s. k b.from b.to s)
  first (value v u) y a b = second (y u) a b v
  first (stop i q u) y a b = refl

-- the place in a range is where both expressions end
range_place : (arrays : List ℕ) (l : ℕ) (e f : Expression) (n : ℕ) (vs cs : List ℕ) (t : Log) (b : Bounds) (s : Log)
    → value b s ≡ bounds arrays l e f n vs cs t → n ≡ b.next
unfolding bounds range_noted
range_place arrays l e f n vs cs t b s = one (value_of byte_trace arrays e vs cs t)
  where
    four : (x : Evaluated Log ℕ) (i j : ℕ) → value b s ≡ bind x (λ a q. value (range i j n) q) → n ≡ b.next
    four (value a q) i j d = let e : b ≡ range i j n = cc in sym (ap (λ (c : Bounds). c.next) e)
    four (stop a c q) i j d = cc

    three : (x : Evaluated Log ℕ) (i j : ℕ) → value b s ≡ bind x (λ a y. bind (emit byte_trace 3 l j y) (λ c q. value (range i j n) q)) → n ≡ b.next
    three (value a y) i j d = four (emit byte_trace 3 l j y) i j d
    three (stop a c q) i j d = cc

    two : (x : Evaluated Log ℕ) (i : ℕ)
        → value b s ≡ bind x (λ j y. bind (emit byte_trace 2 l i y) (λ a q. bind (emit byte_trace 3 l j q) (λ c p. value (range i j n) p))) → n ≡ b.next
    two (value j y) i d = three (emit byte_trace 2 l i y) i j d
    two (stop a c q) i d = cc

    one : (x : Evaluated Log ℕ)
        → value b s ≡ bind x (λ i u. bind (value_of byte_trace arrays f vs cs u) (λ j y. bind (emit byte_trace 2 l i y) (λ a q. bind (emit byte_trace 3 l j q) (λ c p. value (range i j n) p))))
        → n ≡ b.next
    one (value i u) d = two (value_of byte_trace arrays f vs cs u) i d
    one (stop a c q) d = cc

module _ (l : ℕ) (image params : List ℕ) (me at : ℕ) (g : StatementRead l params me image at) (h : op_of (get_or image at 0) ≡ 3) where
  pub bounds_read : PairRead (l - 1) image (at + 1)
  bounds_read = let (f, n, t, m, b, o, w, v, w2, p) = open_for l params me image at g.read h in pair_got (l - 1) image (at + 1) f t n m w v

  module _ (vs cs : List ℕ) (t0 : Log) where
    -- both bounds, as the code evaluates them
    abbrev bounded : Evaluated Log Bounds
    bounded =
        bounds_at (image_in image).arrays at vs cs t0 (read_expression (l - 1) image (at + 1))
        (read_expression (l - 1) image (end_of (read_expression (l - 1) image (at + 1))))

    at_bounds : (f : Expression) (n : ℕ) (t : Expression) (m : ℕ) → read_expression (l - 1) image (at + 1) ≡ got f n → read_expression (l - 1) image n ≡ got t m
        → bounded ≡ bounds (image_in image).arrays at f t m vs cs t0
    unfolding bounds_at end_of
    at_bounds f n t m w v = rw (w, v)

    module _ (b : Bounds) (t1 : Log) (d : value b t1 ≡ bounded) where
      -- the bounds and the block, where the code knows them
      parts : (f : Expression) × (t : Expression) × (m : ℕ) × (x : Block) × (o : ℕ)
          × (bounds (image_in image).arrays at f t m vs cs t0 ≡ value b t1) × (read_block (l - 1) params me image b.next ≡ got x o)
          × (read_statement l params me image at ≡ got (loop (target_of (get_or image at 0)) f t x) o)
      parts =
          let (f, n, t, m, x, o, w, v, w2, p) = open_for l params me image at g.read h in
          let q = d ∙ at_bounds f n t m w v in
          let e = range_place (image_in image).arrays at f t m vs cs t0 b t1 q in
          (f, t, m, x, o, sym q, ap (λ (a : ℕ). read_block (l - 1) params me image a) (sym e) ∙ w2, p)

      pub body_read : BlockRead (l - 1) params me image b.next
      body_read = let (f, t, m, x, o, q, w, p) = parts in block_got (l - 1) params me image b.next x o w

    module _ (budget z : ℕ) where
      -- the run of the statement
      abbrev looped : Run Log Went
      looped = statement_at budget (image_in image) me at z t0 vs cs (read_statement l params me image at)

      -- the passes after the bounds
      abbrev over : Block → ℕ → ℕ → Log → Run Log Outcome
      over b v w t =
          passes budget at (target_of (get_or image at 0)) (λ n p us ds. run_block byte_trace budget (image_in image).arrays (callees budget (image_in image) me) b n p us ds)
          (w - v) v z t vs cs

      for_run : (f t : Expression) (b : Block) (m : ℕ)
          → run_statement byte_trace budget (image_in image).arrays (callees budget (image_in image) me) at (loop (target_of (get_or image at 0)) f t b) z t0 vs cs
          ≡ within z (bounds (image_in image).arrays at f t m vs cs t0) (λ c s. over b c.from c.to s)
      unfolding run_statement run_block bounds range_noted
      for_run f t b m =
          first z m (over b) (value_of byte_trace (image_in image).arrays f vs cs t0) (λ u. value_of byte_trace (image_in image).arrays t vs cs u)
          (λ v q. emit byte_trace 2 at v q) (λ w q. emit byte_trace 3 at w q)

      pub for_stopped : (j q : ℕ) (t1 : Log) → stop j q t1 ≡ bounded → halt j q z t1 ≡ looped
      unfolding statement_at ending
      for_stopped j q t1 d =
          let (f, n, t, m, b, o, w, v, w2, p) = open_for l params me image at g.read h in
          rw (p, for_run f t b m, ← at_bounds f n t m w v, ← d)

      pub for_done : (b : Bounds) (t1 : Log) → value b t1 ≡ bounded → (end x : ℕ) → end ≡ end_of (read_block (l - 1) params me image b.next)
          → x ≡ target_of (get_or image at 0) → (y : Run Log Went)
          → y ≡ passes_at budget (image_in image) me at x (b.to - b.from) b.from end z t1 vs cs (read_block (l - 1) params me image b.next) → y ≡ looped
      unfolding statement_at passes_at
      for_done b t1 d end x e hx y d2 =
          let (f, t, m, k, o, q, w, p) = parts b t1 d in
          let a : end ≡ o = e ∙ end_of_lem _ k o w in
          rw (p, for_run f t k m, q, ← a, ← hx) (rw w at d2)
