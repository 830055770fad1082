-- What each way out of a call and of a procedure's body gives, and what each call in them asks. Assumes nothing.
use mathlib.Core.Path.{◌≡◌, refl, sym, ap, ◌∙◌}
use mathlib.Core.Bool.{Bool, true, false}
use mathlib.Core.List.{List, [], ◌∷◌}
use Prim.Native.Nat.{ℕ, zero, suc, ◌+◌, ◌-◌, ◌≤◌, ◌<◌}
use native.Mathlib.Omega.{arith}
use lib.Dec.{eqb}
use lib.ListN.{length, get_or, set, replicate}
use lib.Seq.{sets}
use Rattle.std.specs.Prelude.{Ok}
use Rattle.definitions.specs.Choice.{pick}
use Rattle.definitions.specs.Image.{op_of, called_of, result_of, largest_level, Expression, call}
use Rattle.definitions.specs.Reading.{got, read_expression, read_arguments, read_statement, read_block}
use Rattle.definitions.specs.Running.{Evaluated, value, stop, bind, emit, evaluate_all, on, halt, Outcome, next, back, Given, gave}
use Rattle.definitions.specs.Running.{and_go, received, run_statement, run_block, frame, finish, Ran as Run, evaluate as value_of}
use Rattle.laws.specs.ImageIn.{image_in}
use Rattle.laws.specs.Parses.{ok, ok_of}
use Rattle.laws.specs.ExpressionInversion.{open_argument, open_no_argument}
use Rattle.laws.specs.StatementInversion.{open_call}
use Rattle.image_words.specs.Read.{StatementRead, BlockRead, arguments_at}
use Rattle.image_words.specs.StatementParts.{block_got, read_called, read_call}
use Rattle.tables.specs.Table.{params_in, body_in}
use Rattle.tables.specs.Looking.{Listed, listed_below, procedure_in, known_arity, known_limits, known_reads, form_small}
use Rattle.tracing.specs.Log.{Log, byte_trace}
use Rattle.tracing.specs.Answers.{logged}
use Rattle.simple_statements.specs.declared.Ran.{Ran}
use Rattle.simple_statements.specs.declared.Ran.TheVariants.{On, Back}
use Rattle.simple_statements.specs.declared.State.{State}
use Rattle.simple_statements.specs.Runs.{Went, went, gone, finished, placed, ending, callees, statement_at, Values, given, values_at}
use Rattle.runner.specs.Callees.{callee_at, framed_is}
use Rattle.runner.specs.Runs.{Ready, block_at, framed, procedure_run}

-- ---- the values

-- as many values as were read
read_length : (n l : ℕ) (image : List ℕ) (at : ℕ) (es : List Expression) (m : ℕ) → read_arguments n (λ a. read_expression l image a) at ≡ got es m → length es ≡ n
read_length zero l image at es m w = none (sym (open_no_argument (λ a. read_expression l image a) at) ∙ w)
  where
    none : got [] at ≡ got es m → length es ≡ 0
    none e = let q : [] ≡ es = cc in ap length (sym q)
read_length (suc n) l image at es m w =
    let (e, a, fs, o, v, u, q) = open_argument n (λ b. read_expression l image b) at (ok_of _ es m w) in
    let p : (e ∷ fs) ≡ es = same (sym q ∙ w) in
    ap length (sym p) ∙ ap suc (read_length n l image a fs o u)
  where
    same : {ds : List Expression} {b : ℕ} → got ds b ≡ got es m → ds ≡ es
    same {ds} {b} e = cc

value_length : (arrays vs cs : List ℕ) (es : List Expression) (t : Log) (ws : List ℕ) (u : Log) → evaluate_all byte_trace arrays es vs cs t ≡ value ws u → length ws ≡ length es
unfolding evaluate_all
value_length arrays vs cs [] t ws u d = let q : [] ≡ ws = cc in ap length (sym q)
value_length arrays vs cs (e ∷ es) t ws u d = one (value_of byte_trace arrays e vs cs t) (λ x vs2 v. value_length arrays vs cs es x vs2 v) d
  where
    two : (v : ℕ) (x : Evaluated Log (List ℕ)) → ((vs2 : List ℕ) (q : Log) → x ≡ value vs2 q → length vs2 ≡ length es)
        → bind x (λ xs q. value (v ∷ xs) q) ≡ value ws u → length ws ≡ suc (length es)
    two v (value xs q) k d2 = let p : (v ∷ xs) ≡ ws = cc in ap length (sym p) ∙ ap suc (k xs q refl)
    two v (stop i l q) k d2 = cc

    one : (x : Evaluated Log ℕ)
        → ((y : Log) (vs2 : List ℕ) (q : Log) → evaluate_all byte_trace arrays es vs cs y ≡ value vs2 q → length vs2 ≡ length es)
        → bind x (λ v y. bind (evaluate_all byte_trace arrays es vs cs y) (λ xs q. value (v ∷ xs) q)) ≡ value ws u → length ws ≡ suc (length es)
    one (value v y) k d2 = two v (evaluate_all byte_trace arrays es vs cs y) (k y) d2
    one (stop i l q) k d2 = cc

-- ---- the values of a call, where they are known

values_stop : (x : Evaluated Log (List ℕ)) (vs0 : List ℕ) (n j q : ℕ) (t : Log)
    → stop j q t ≡ bind x (λ ws u. value (given (sets vs0 0 ws) n) u) → x ≡ stop j q t
values_stop (value ws u) vs0 n j q t e = cc
values_stop (stop a b u) vs0 n j q t e = cc

values_got : (x : Evaluated Log (List ℕ)) (vs0 vs : List ℕ) (n m : ℕ) (t : Log)
    → value (given vs m) t ≡ bind x (λ ws u. value (given (sets vs0 0 ws) n) u)
    → (ws : List ℕ) × (x ≡ value ws t) × (vs ≡ sets vs0 0 ws) × (n ≡ m)
values_got (value ws u) vs0 vs n m t e = (ws, cc, cc, cc)
values_got (stop a b u) vs0 vs n m t e = ([], cc, cc, cc)

-- ---- a call

module _ (l : ℕ) (image table : List ℕ) (me at : ℕ) (g : StatementRead l (params_in table) me image at) (h : op_of (get_or image at 0) ≡ 5)
    (f : ℕ) (hf : f ≡ called_of (get_or image at 0)) where
  pub callee_below : f < me
  callee_below = rw hf (read_called l (params_in table) me image at g.read _ refl h)

  pub arguments_read : (count : ℕ) → count ≡ get_or (params_in table) f 0 → ok (arguments_at count (l - 1) image (at + 1)) ≡ true
  arguments_read count e = rw (e, hf) (read_call l (params_in table) me image at g.read _ refl h)

  pub callee_ready : (ends : List ℕ) → Ready image table ends me → Ready image table ends f
  callee_ready ends k = record { listed = listed_below image table me f k.listed callee_below; block_ends = k.block_ends }

  module _ (k : Listed image table me) (budget : ℕ) (vs cs : List ℕ) (t0 : Log) (z count : ℕ) (e : count ≡ get_or (params_in table) f 0) where
    callee_listed : Listed image table f
    callee_listed = listed_below image table me f k callee_below

    -- the run of the statement
    abbrev defined : Run Log Went
    defined = statement_at budget (image_in image) me at z t0 vs cs (read_statement l (params_in table) me image at)

    -- its values
    abbrev valued : Evaluated Log Values
    valued = values_at (image_in image).arrays vs cs t0 (replicate 9 0) 0 (arguments_at count (l - 1) image (at + 1))

    at_values : (es : List Expression) (n : ℕ)
        → read_arguments (get_or (params_in table) (called_of (get_or image at 0)) 0) (λ a. read_expression (l - 1) image a) (at + 1) ≡ got es n
        → valued ≡ bind (evaluate_all byte_trace (image_in image).arrays es vs cs t0) (λ ws t. value (given (sets (replicate 9 0) 0 ws) n) t)
    unfolding values_at arguments_at
    at_values es n w = rw (e, hf, w)

    pub call_stopped : (j q : ℕ) (t1 : Log) → stop j q t1 ≡ valued → halt j q z t1 ≡ defined
    unfolding statement_at ending run_statement run_block
    call_stopped j q t1 d =
        let (es, n, b, w, p) = open_call l (params_in table) me image at g.read h in
        rw (p, values_stop (evaluate_all byte_trace (image_in image).arrays es vs cs t0) (replicate 9 0) n j q t1 (d ∙ at_values es n w))

    module _ (values : List ℕ) (n : ℕ) (t1 : Log) (d : value (given values n) t1 ≡ valued) where
      -- the values, in the callee's frame
      called_with : (es : List Expression) × (ws : List ℕ) × (evaluate_all byte_trace (image_in image).arrays es vs cs t0 ≡ value ws t1)
          × (framed values ≡ frame ws) × (read_statement l (params_in table) me image at ≡ got (call f (result_of (get_or image at 0)) es) n)
      called_with =
          let (es, o, b, w, p) = open_call l (params_in table) me image at g.read h in
          let (ws, x, y, q) = values_got (evaluate_all byte_trace (image_in image).arrays es vs cs t0) (replicate 9 0) values o n t1 (d ∙ at_values es o w) in
          let a = value_length (image_in image).arrays vs cs es t0 ws t1 x in
          let c = read_length (get_or (params_in table) (called_of (get_or image at 0)) 0) (l - 1) image (at + 1) es o w in
          let i = known_arity image table callee_listed.known f callee_listed.number in
          let (m1, few, m3, m4) = known_limits image table callee_listed.known f callee_listed.number in
          let form = form_small image table callee_listed.known in
          let c2 : length es ≡ get_or (params_in table) f 0 = c ∙ ap (λ (j : ℕ). get_or (params_in table) j 0) (sym hf) in
          (es, ws, x, ap framed y ∙ framed_is ws (omega arith), rw (hf, ← q) p)

      module _ (t2 : Log) where
        pub call_full : (j q : ℕ) → stop j q t2 ≡ emit byte_trace 7 at f t1 → halt j q z t2 ≡ defined
        unfolding statement_at ending run_statement run_block
        call_full j q d2 = let (es, ws, y, i, p) = called_with in rw (p, y, ← d2)

        module _ (b : ℕ) (d2 : value b t2 ≡ emit byte_trace 7 at f t1) where
          -- the callee's run, as the code takes it
          abbrev body : Run Log Given
          body = procedure_run budget (image_in image) f z t2 values cs

          callee_run : (ws : List ℕ) → framed values ≡ frame ws → body ≡ callees budget (image_in image) me f ws z t2 cs
          unfolding procedure_run
          callee_run ws i =
              (rw i) ∙ sym (callee_at byte_trace budget (image_in image).arrays (image_in image).procedures f ws z t2 cs me callee_below)

          pub callee_stopped : (j q z3 : ℕ) (t3 : Log) → halt j q z3 t3 ≡ body → halt j q z3 t3 ≡ defined
          unfolding statement_at ending run_statement run_block
          callee_stopped j q z3 t3 d3 =
              let (es, ws, y, i, p) = called_with in
              rw (p, y, ← d2, ← callee_run ws i, ← d3)

          pub callee_gave : (x z3 : ℕ) (cs2 : List ℕ) (t3 : Log) → on (gave x cs2) z3 t3 ≡ body → (vs1 : List ℕ) (c r : ℕ) → vs1 ≡ set vs c x → c ≡ r
              → r ≡ result_of (get_or image at 0) → on (went n vs1 cs2) z3 t3 ≡ defined
          unfolding statement_at ending placed run_statement run_block received
          callee_gave x z3 cs2 t3 d3 vs1 c r o hc hr =
              let (es, ws, y, i, p) = called_with in
              rw (p, y, ← d2, ← callee_run ws i, ← d3, o, hc, hr)

-- ---- a procedure's body

-- no form has more levels than the compiled one
pub level_small : (form top : ℕ) → top ≡ largest_level form → top ≤ largest_level 1
level_small form top e = rw e (go (eqb form 0))
  where
    go : (b : Bool) → pick b (largest_level 0) (largest_level 1) ≤ largest_level 1
    go true = omega arith
    go false = omega arith

module _ (image table : List ℕ) (f : ℕ) (k : Listed image table f) (form top body : ℕ) (ef : form ≡ (image_in image).form) (et : top ≡ largest_level form)
    (eb : body ≡ body_in table f) where
  body_is : (m : ℕ) × (read_block top (params_in table) f image body ≡ got (procedure_in image f).body m)
  body_is =
      let e : top ≡ largest_level (image_in image).form = et ∙ ap largest_level ef in
      rw (e, eb) (known_reads image table k.known f k.number)

  pub start_read : BlockRead top (params_in table) f image body
  start_read = let (m, w) = body_is in block_got top (params_in table) f image body (procedure_in image f).body m w

  module _ (budget : ℕ) (values fr : List ℕ) (hv : fr ≡ framed values) (cs : List ℕ) (t : Log) (z : ℕ) where
    -- the run of the body, as the code takes it, and of the procedure
    abbrev ran : Run Log Went
    ran = block_at budget (image_in image) f z t fr cs (read_block top (params_in table) f image body)

    abbrev answered : Run Log Given
    answered = procedure_run budget (image_in image) f z t values cs

    at_body : (m : ℕ) × (ran ≡ ending m (run_block byte_trace budget (image_in image).arrays (callees budget (image_in image) f) (procedure_in image f).body z t (framed values) cs))
    unfolding block_at
    at_body = let (m, w) = body_is in (m, rw (w, hv))

    pub body_stopped : (j q y : ℕ) (s : Log) → halt j q y s ≡ ran → halt j q y s ≡ answered
    unfolding procedure_run ending placed finish
    body_stopped j q y s d = let (m, e) = at_body in go m _ (d ∙ e)
      where
        go : (m : ℕ) (x : Run Log Outcome) → halt j q y s ≡ and_go x (placed m) → halt j q y s ≡ and_go x finish
        go m (on (next vs ds) i u) e = cc
        go m (on (back v ds) i u) e = cc
        go m (halt a b i u) e = cc

    module _ (r : Ran) (vs1 : List ℕ) (st : State) (d : finished (Ok r) vs1 st ≡ ran) where
      pub body_returned : (v : ℕ) → r ≡ Back v → on (gave v st.cells.now) st.steps (logged st.trace.now) ≡ answered
      unfolding procedure_run ending placed finish
      body_returned v h =
          let (m, e) = at_body in
          let k : on (gone v st.cells.now) st.steps (logged st.trace.now) ≡ ran = rw h at d in
          go m _ (k ∙ e)
        where
          go : (m : ℕ) (x : Run Log Outcome) → on (gone v st.cells.now) st.steps (logged st.trace.now) ≡ and_go x (placed m)
              → on (gave v st.cells.now) st.steps (logged st.trace.now) ≡ and_go x finish
          go m (on (next vs ds) i u) e = cc
          go m (on (back w ds) i u) e = cc
          go m (halt a b i u) e = cc

      pub body_fell : (n : ℕ) → r ≡ On n → on (gave 0 st.cells.now) st.steps (logged st.trace.now) ≡ answered
      unfolding procedure_run ending placed finish
      body_fell n h =
          let (m, e) = at_body in
          let k : on (went n vs1 st.cells.now) st.steps (logged st.trace.now) ≡ ran = rw h at d in
          go m _ (k ∙ e)
        where
          go : (m : ℕ) (x : Run Log Outcome) → on (went n vs1 st.cells.now) st.steps (logged st.trace.now) ≡ and_go x (placed m)
              → on (gave 0 st.cells.now) st.steps (logged st.trace.now) ≡ and_go x finish
          go m (on (next vs ds) i u) e = cc
          go m (on (back w ds) i u) e = cc
          go m (halt a b i u) e = cc
