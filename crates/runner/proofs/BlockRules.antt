-- The loops over a block's statements and over a for's passes: what is left, and what a turn makes of it. Assumes nothing.
use mathlib.Core.Path.{◌≡◌, refl, sym, ap, ◌∙◌}
use mathlib.Core.Bool.{true}
use mathlib.Core.List.{List}
use Prim.Native.Nat.{ℕ, suc, ◌+◌, ◌-◌, ◌≤◌, ◌<◌}
use native.Mathlib.Omega.{arith}
use borrow.Author.Tests.{lt-ltb, le-ltb}
use lib.ListN.{get_or, set}
use Rattle.definitions.specs.Image.{payload_of, Statement, Block, sequence, Image}
use Rattle.definitions.specs.Reading.{Parse, got, read_statement, read_block}
use Rattle.definitions.specs.Running.{on, halt, and_go, tick, after, passes, Body, Outcome, next, back, run_statement, run_block, Ran as Run}
use Rattle.laws.specs.ImageIn.{image_in}
use Rattle.laws.specs.Parses.{ok, end_of, ok_of, got_ok, end_of_lem}
use Rattle.image_words.specs.Read.{StatementRead, BlockRead, statements_at}
use Rattle.image_words.specs.StatementParts.{no_statement, first_statement, read_statement_lem, block_statements}
use Rattle.reasons.specs.Numbers.{reason_number}
use Rattle.reasons.specs.declared.Reason.TheVariants.{BudgetSpent}
use Rattle.std.specs.Prelude.{Ok}
use Rattle.tracing.specs.declared.Stop.{Stop}
use Rattle.tracing.specs.Log.{Log, byte_trace}
use Rattle.tracing.specs.Answers.{logged}
use Rattle.simple_statements.specs.declared.Ran.{Ran}
use Rattle.simple_statements.specs.declared.Ran.TheVariants.{On, Back}
use Rattle.simple_statements.specs.declared.State.{State}
use Rattle.simple_statements.specs.Runs.{Went, went, gone, finished, placed, ending, callees, statement_at}
use Rattle.runner.specs.Runs.{block_at, passes_at}

-- ---- what follows a statement or a pass: nothing after a return

pub follow : (ℕ → ℕ → Log → List ℕ → List ℕ → Run Log Went) → Went → ℕ → Log → Run Log Went
follow f (went n vs cs) z t = f n z t vs cs
follow f (gone v cs) z t = on (gone v cs) z t

-- a run that goes on where the code does, with what follows it placed at m
followed : (n m : ℕ) (x : Run Log Outcome) (f : Body Log) (g : ℕ → ℕ → Log → List ℕ → List ℕ → Run Log Went)
    → ((z : ℕ) (t : Log) (vs cs : List ℕ) → ending m (f z t vs cs) ≡ g n z t vs cs) → ending m (and_go x (after f)) ≡ and_go (ending n x) (follow g)
unfolding ending placed follow
followed n m (on (next vs cs) z t) f g k = k z t vs cs
followed n m (on (back v cs) z t) f g k = refl
followed n m (halt i q z t) f g k = refl

-- a block's run that goes on goes on behind it
pub block_end : (budget : ℕ) (program : Image) (me z : ℕ) (t : Log) (vs cs : List ℕ) (x : Parse Block) → ok x ≡ true
    → (c : ℕ) (vs1 cs1 : List ℕ) (z1 : ℕ) (t1 : Log) → on (went c vs1 cs1) z1 t1 ≡ block_at budget program me z t vs cs x → c ≡ end_of x
unfolding block_at ending placed
block_end budget program me z t vs cs x o c vs1 cs1 z1 t1 d =
    let (b, n, w) = got_ok x o in
    place n (run_block byte_trace budget program.arrays (callees budget program me) b z t vs cs) (rw w at d) ∙ sym (end_of_lem x b n w)
  where
    place : (n : ℕ) (y : Run Log Outcome) → on (went c vs1 cs1) z1 t1 ≡ and_go y (placed n) → c ≡ n
    place n (on (next ws ds) i s) e = cc
    place n (on (back v ds) i s) e = cc
    place n (halt i q j s) e = cc

-- ---- a block's statements

module _ (l : ℕ) (image params : List ℕ) (me at : ℕ) (g : BlockRead l params me image at) (count : ℕ) (h : count ≡ payload_of (get_or image at 0)) where
  block_is : statements_at (count - 0) (l - 1) params me image (at + 1) ≡ read_block l params me image at
  block_is =
      let e : count - 0 ≡ count = omega arith in rw (e, h) (sym (block_statements l params me image at g.read).1)

  pub block_begin_ok : ok (statements_at (count - 0) (l - 1) params me image (at + 1)) ≡ true
  block_begin_ok = ap ok block_is ∙ g.read

  pub block_begin : (budget z : ℕ) (t : Log) (vs cs : List ℕ)
      → block_at budget (image_in image) me z t vs cs (statements_at (count - 0) (l - 1) params me image (at + 1))
      ≡ block_at budget (image_in image) me z t vs cs (read_block l params me image at)
  block_begin budget z t vs cs = ap (block_at budget (image_in image) me z t vs cs) block_is

module _ (n l : ℕ) (image params : List ℕ) (me k a : ℕ) where
  pub block_done : (budget : ℕ) (vs cs : List ℕ) (z : ℕ) (t : Log) (X : Run Log Went)
      → block_at budget (image_in image) me z t vs cs (statements_at (n - k) l params me image a) ≡ X → n ≤ k → on (went a vs cs) z t ≡ X
  unfolding block_at ending placed run_statement run_block
  block_done budget vs cs z t X i h =
      let e : n - k ≡ 0 = omega arith in
      let p : block_at budget (image_in image) me z t vs cs (statements_at 0 l params me image a) ≡ X = rw e at i in
      (rw (no_statement l params me image a)) ∙ p

  module _ (o : ok (statements_at (n - k) l params me image a) ≡ true) (h : k < n) where
    -- the next statement and those after it
    statements_next : (s : Statement) × (m : ℕ) × (b : Block) × (p : ℕ)
        × (read_statement l params me image a ≡ got s m) × (statements_at (n - (k + 1)) l params me image m ≡ got b p)
        × (statements_at (n - k) l params me image a ≡ got (sequence a s b) p)
    statements_next =
        let e : n - (k + 1) ≡ n - k - 1 = omega arith in
        rw e (first_statement (n - k) l params me image a o (omega arith))

    pub statement_read : StatementRead l params me image a
    statement_read = read_statement_lem (n - k) l params me image a o (omega arith)

    module _ (budget : ℕ) (vs cs : List ℕ) (z : ℕ) (t : Log) where
      -- the run of the next statement
      abbrev begun : Run Log Went
      begun = statement_at budget (image_in image) me a (z + 1) t vs cs (read_statement l params me image a)

      pub block_ok : (r : Ran) (c : ℕ) (vs1 : List ℕ) (st : State) → finished (Ok r) vs1 st ≡ begun → r ≡ On c
          → ok (statements_at (n - (k + 1)) l params me image c) ≡ true
      unfolding statement_at ending placed
      block_ok r c vs1 st d e =
          let (s, m, b, p, w, v, f) = statements_next in
          let g : on (went c vs1 st.cells.now) st.steps (logged st.trace.now) ≡ begun = rw e at d in
          let q = place m (run_statement byte_trace budget (image_in image).arrays (callees budget (image_in image) me) a s (z + 1) t vs cs) (rw w at g) in
          ok_of _ b p (rw q at v)
        where
          place : (m : ℕ) (y : Run Log Outcome) → on (went c vs1 st.cells.now) st.steps (logged st.trace.now) ≡ and_go y (placed m) → m ≡ c
          place m (on (next ws ds) j s) f = cc
          place m (on (back v ds) j s) f = cc
          place m (halt i q j s) f = cc

      module _ (X : Run Log Went) (i : block_at budget (image_in image) me z t vs cs (statements_at (n - k) l params me image a) ≡ X) where
        pub block_spent : (s : Stop) → budget ≤ z → s.reason ≡ BudgetSpent → s.place ≡ a → halt (reason_number s.reason) s.place z t ≡ X
        unfolding block_at ending run_statement run_block tick
        block_spent s q e f =
            let (u, m, b, p, w, v, x) = statements_next in
            let spent : halt 21 a z t ≡ X = (rw (x, le-ltb z budget q)) ∙ i in
            rw (e, f) spent

        module _ (y : z < budget) where
          -- the statement, then the block that is left
          block_opened : and_go begun
              (follow (λ c z1 t1 vs1 cs1. block_at budget (image_in image) me z1 t1 vs1 cs1 (statements_at (n - (k + 1)) l params me image c))) ≡ X
          unfolding block_at statement_at run_statement run_block tick
          block_opened =
              let (s, m, b, p, w, v, e) = statements_next in
              (rw w (sym (followed m p (run_statement byte_trace budget (image_in image).arrays (callees budget (image_in image) me) a s (z + 1) t vs cs)
              (λ z1 t1 vs1 cs1. run_block byte_trace budget (image_in image).arrays (callees budget (image_in image) me) b z1 t1 vs1 cs1)
              (λ c z1 t1 vs1 cs1. block_at budget (image_in image) me z1 t1 vs1 cs1 (statements_at (n - (k + 1)) l params me image c))
              (λ z1 t1 vs1 cs1. rw v))))
              ∙ (rw (e, lt-ltb z budget y) at i)

          pub block_stopped : (j q z1 : ℕ) (t1 : Log) → halt j q z1 t1 ≡ begun → halt j q z1 t1 ≡ X
          block_stopped j q z1 t1 d = rw (← d) at block_opened

          module _ (r : Ran) (vs1 : List ℕ) (st : State) (d : finished (Ok r) vs1 st ≡ begun) where
            pub block_returned : (v : ℕ) → r ≡ Back v → on (gone v st.cells.now) st.steps (logged st.trace.now) ≡ X
            unfolding follow
            block_returned v e =
                let f : on (gone v st.cells.now) st.steps (logged st.trace.now) ≡ begun = rw e at d in rw (← f) at block_opened

            pub block_more : (c : ℕ) → r ≡ On c
                → block_at budget (image_in image) me st.steps (logged st.trace.now) vs1 st.cells.now (statements_at (n - (k + 1)) l params me image c) ≡ X
            unfolding follow
            block_more c e =
                let f : on (went c vs1 st.cells.now) st.steps (logged st.trace.now) ≡ begun = rw e at d in rw (← f) at block_opened

-- ---- a for's passes

module _ (l : ℕ) (image params : List ℕ) (me body : ℕ) (g : BlockRead l params me image body) (budget at x after_it : ℕ) (vs cs : List ℕ)
    (to i z : ℕ) (t : Log) (X : Run Log Went)
    (inv : passes_at budget (image_in image) me at x (to - i) i after_it z t vs cs (read_block l params me image body) ≡ X) where
  pub passes_done : to ≤ i → on (went after_it vs cs) z t ≡ X
  unfolding passes_at ending placed passes
  passes_done h =
      let (b, m, w) = got_ok (read_block l params me image body) g.read in let e : to - i ≡ 0 = omega arith in (rw (w, e)) ∙ inv

  module _ (h : i < to) where
    more : to - i ≡ suc (to - (i + 1))
    more = omega arith

    pub passes_spent : (s : Stop) → budget ≤ z → s.reason ≡ BudgetSpent → s.place ≡ at → halt (reason_number s.reason) s.place z t ≡ X
    unfolding passes_at ending passes tick
    passes_spent s q e f =
        let (b, m, w) = got_ok (read_block l params me image body) g.read in
        let spent : halt 21 at z t ≡ X = (rw (w, more, le-ltb z budget q)) ∙ inv in
        rw (e, f) spent

    module _ (y : z < budget) (v : ℕ) (vs0 : List ℕ) (f : vs0 ≡ set vs v i) (hv : v ≡ x) where
      set_is : set vs x i ≡ vs0
      set_is = sym (f ∙ ap (λ (q : ℕ). set vs q i) hv)

      -- the block, then the passes that are left
      passes_opened : and_go (block_at budget (image_in image) me (z + 1) t vs0 cs (read_block l params me image body))
          (follow (λ c z1 t1 vs1 cs1. passes_at budget (image_in image) me at x (to - (i + 1)) (i + 1) after_it z1 t1 vs1 cs1 (read_block l params me image body))) ≡ X
      unfolding block_at passes_at passes tick
      passes_opened = let (b, m, w) = got_ok (read_block l params me image body) g.read in go b m w
        where
          go : (b : Block) (m : ℕ) → read_block l params me image body ≡ got b m
              → and_go (block_at budget (image_in image) me (z + 1) t vs0 cs (read_block l params me image body))
              (follow (λ c z1 t1 vs1 cs1. passes_at budget (image_in image) me at x (to - (i + 1)) (i + 1) after_it z1 t1 vs1 cs1 (read_block l params me image body))) ≡ X
          go b m w =
              (rw w (sym (followed m after_it (run_block byte_trace budget (image_in image).arrays (callees budget (image_in image) me) b (z + 1) t vs0 cs)
              (λ z1 t1 vs1 cs1. passes budget at x
              (λ y1 u us ds. run_block byte_trace budget (image_in image).arrays (callees budget (image_in image) me) b y1 u us ds) (to - (i + 1)) (i + 1) z1 t1 vs1 cs1)
              (λ c z1 t1 vs1 cs1. ending after_it (passes budget at x
              (λ y1 u us ds. run_block byte_trace budget (image_in image).arrays (callees budget (image_in image) me) b y1 u us ds) (to - (i + 1)) (i + 1) z1 t1 vs1 cs1))
              (λ z1 t1 vs1 cs1. refl))))
              ∙ (rw (w, more, lt-ltb z budget y, set_is) at inv)

      -- the run of the block
      abbrev pass : Run Log Went
      pass = block_at budget (image_in image) me (z + 1) t vs0 cs (read_block l params me image body)

      pub passes_stopped : (j q z1 : ℕ) (t1 : Log) → halt j q z1 t1 ≡ pass → halt j q z1 t1 ≡ X
      passes_stopped j q z1 t1 d = rw (← d) at passes_opened

      module _ (r : Ran) (vs1 : List ℕ) (st : State) (d : finished (Ok r) vs1 st ≡ pass) where
        pub passes_returned : (u : ℕ) → r ≡ Back u → on (gone u st.cells.now) st.steps (logged st.trace.now) ≡ X
        unfolding follow
        passes_returned u e =
            let k : on (gone u st.cells.now) st.steps (logged st.trace.now) ≡ pass = rw e at d in rw (← k) at passes_opened

        pub passes_more : (c : ℕ) → r ≡ On c
            → passes_at budget (image_in image) me at x (to - (i + 1)) (i + 1) after_it st.steps (logged st.trace.now) vs1 st.cells.now (read_block l params me image body) ≡ X
        unfolding follow
        passes_more c e =
            let k : on (went c vs1 st.cells.now) st.steps (logged st.trace.now) ≡ pass = rw e at d in rw (← k) at passes_opened
