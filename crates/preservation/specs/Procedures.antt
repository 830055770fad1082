-- A procedure and its compiled form, run on frames of their own, end alike; and a compiled form whose guard is 0 leaves the cells as they were.
-- Assumes nothing.
use Rattle.std.specs.Prelude.{◌≡◌, ◌≢◌, Bool, List, [], ◌∷◌, ◌++◌, ℕ, ◌+◌, ◌≤◌}
use Rattle.std.proofs.Math.Path.{refl}
use Rattle.std.proofs.Common.{sym, ◌∙◌, true≢false, length-set}
use Rattle.std.proofs.Math.Bool.{true, false}
use native.Mathlib.Omega.{arith}
use Rattle.std.proofs.Math.ListN.{length, get_or, set, length-append}
use Rattle.std.proofs.Math.Seq.{get_or-set_other}
use Rattle.definitions.specs.Image.{boolean, variable, return, assign, Procedure, Image, guarded}
use Rattle.definitions.specs.Compiling.{one, followed_by, closed, defers, guards, return_variable, first_pair}
use Rattle.definitions.specs.Compiling.{compiled_body}
use Rattle.definitions.specs.Running.{Trace, on, and_go, after, evaluate, Outcome, next, back, Callee, frame, finish}
use Rattle.definitions.specs.Running.{run_statement, run_block}
use Rattle.preservation.specs.Relations.{SafeValue, sound, Safe, fine, Sim, meet, safe_within, safe_go, safe_map}
use Rattle.preservation.specs.Relations.{sim_go, sim_map, sim_then, sim_more, emitted}
use Rattle.preservation.specs.Runs.{Next, onward, run_followed, safe_one, safe_step, safe_followed, safe_assign}
use Rattle.preservation.specs.Runs.{sim_assign_right}
use Rattle.preservation.specs.Acts.{Unchanged}
use Rattle.preservation.specs.Inactive.{Unmoved, unmoved, InactiveCallee, inactive_block}
use Rattle.preservation.specs.Frames.{EndAlike, going, quit, deferred}
use Rattle.preservation.specs.Simulation.{SameGiven, same_given, SimCallee, simulated_block}
use Rattle.preservation.specs.Bodies.{Accepted, layout_of, scope_of, body_code, few_parameters, typed_parameters}
use Rattle.preservation.specs.Bodies.{guards_few, body_block}
use Rattle.preservation.specs.Starts.{frame_value, frame_length, started, opened, off_start}

-- how the body ends and how its code does: the code falls off its end or returns what the source does, 0 where that falls off its end
data Closes : Outcome → Outcome → Type 0 where
  falls : {us vs cs : List ℕ} → Closes (next us cs) (next vs cs)
  nothing : {us cs : List ℕ} → Closes (next us cs) (back 0 cs)
  returns : {v : ℕ} {cs : List ℕ} → Closes (back v cs) (back v cs)

-- the code ends and leaves the cells as they were
data Leaves (cs : List ℕ) : Outcome → Type 0 where
  leaves : {vs : List ℕ} → Leaves cs (next vs cs)
  leaves_back : {v : ℕ} → Leaves cs (back v cs)

sim_finish : {T U : Type 0} (p q : Outcome) (z y : ℕ) (t : T) (u : U) → Closes p q → Sim SameGiven (finish p z t) (finish q y u)
unfolding finish
sim_finish (next _ _) (next _ _) z y t u falls = meet same_given
sim_finish (next _ _) (back _ _) z y t u nothing = meet same_given
sim_finish (back _ _) (back _ _) z y t u returns = meet same_given
sim_finish (back _ _) (next _ _) z y t u h = elim h [ ]

safe_finish : {U : Type 0} {cs : List ℕ} (p : Outcome) (z : ℕ) (u : U) → Leaves cs p → Safe (Unmoved cs) (finish p z u)
unfolding finish
safe_finish (next _ _) z u leaves = fine unmoved
safe_finish (back _ _) z u leaves_back = fine unmoved

-- "return RV closes it"
closing : {U : Type 0} (D : Trace U) (budget : ℕ) (arrays : List ℕ) (K : Callee U) (rv v : ℕ) (vs cs : List ℕ) → get_or vs rv 0 ≡ v → (z : ℕ) (u : U)
    → Safe (λ o. o ≡ back v cs) (run_block D budget arrays K (one (return (variable 0 rv))) z u vs cs)
unfolding run_statement evaluate
closing D budget arrays K rv v vs cs e z u =
    safe_one D budget arrays K (return (variable 0 rv)) z u vs cs λ y. rw e (safe_within y (emitted D 8 0 0 u) λ d x _. fine refl)

module _ {I : Image} {P : Procedure} (h : Accepted I P) where
  module _ {T U : Type 0} (C : Trace T) (D : Trace U) (budget budget' : ℕ) (J : Callee T) (K : Callee U) (ks : SimCallee I.procedures T U J K) (kq : InactiveCallee I.procedures K) where
    -- the code of a body that defers a return, up to its closing
    close : defers I.arrays P ≡ true → {val : ℕ → ℕ} (p q : Outcome) (z : ℕ) (t : T) (y : ℕ) (u : U) → EndAlike (layout_of I P) (scope_of I P) val (defers I.arrays P) p q
        → Sim Closes (on p z t) (after (λ w v us ds. run_block D budget' I.arrays K (one (return (variable 0 (return_variable P)))) w v us ds) q y u)
    close d (next us ds) (next vs _) z t y u (going m) =
        sim_more (closing D budget' I.arrays K (return_variable P) 0 vs ds (m.result d) y u) λ q e. rw e nothing
    close d (next us ds) (back _ _) z t y u h = elim h [ ]
    close d (back v ds) (back _ _) z t y u quit = meet returns
    close d (back v ds) (next vs _) z t y u (deferred r m) =
        sim_more (closing D budget' I.arrays K (return_variable P) v vs ds m.result y u) λ q e. rw e returns

    open_end : defers I.arrays P ≡ false → {val : ℕ → ℕ} (p q : Outcome) → EndAlike (layout_of I P) (scope_of I P) val (defers I.arrays P) p q → Closes p q
    open_end d (next _ _) (next _ _) (going m) = falls
    open_end d (next _ _) (back _ _) h = elim h [ ]
    open_end d (back _ _) (back _ _) quit = returns
    open_end d (back _ _) (next _ _) (deferred r m) = absurd (true≢false (sym r ∙ d))

    sim_code : (ws xs : List ℕ) → length ws ≡ P.parameters → length xs ≡ guards P → (guarded P ≡ true → get_or (ws ++ xs) P.parameters 0 ≢ 0)
        → (z : ℕ) (t : T) (y : ℕ) (u : U) (cs : List ℕ)
        → Sim Closes (run_block C budget I.arrays J P.body z t (frame ws) cs) (run_block D budget' I.arrays K (compiled_body I.procedures I.arrays P) y u (frame (ws ++ xs)) cs)
    unfolding compiled_body
    sim_code ws xs e f g z t y u cs = go (defers I.arrays P) refl
      where
        short : length (ws ++ xs) ≤ 255
        short = let n = length-append ws xs in let p = few_parameters h in let q = guards_few h in omega arith

        go : (d : Bool) → defers I.arrays P ≡ d
            → Sim Closes (run_block C budget I.arrays J P.body z t (frame ws) cs) (run_block D budget' I.arrays K (closed d (return_variable P) (body_code I P)) y u (frame (ws ++ xs)) cs)
        go true d = unfold closed in
            sim_assign_right D budget' I.arrays K (run_block C budget I.arrays J P.body z t (frame ws) cs) (return_variable P + 1) (boolean 0 1) (followed_by (body_code I P) (one (return (variable 0 (return_variable P)))))
            y u (frame (ws ++ xs)) cs live_true
            λ v y₁ u₁ q. rw (q, run_followed D budget' I.arrays K (body_code I P) (one (return (variable 0 (return_variable P)))) y₁ u₁ (set (frame (ws ++ xs)) (return_variable P + 1) 1) cs)
            (sim_then (simulated_block (layout_of I P) C D budget budget' J K ks kq P.body (scope_of I P) (guarded P) P.parameters false (first_pair I.arrays P) (body_block h)
            (λ y. get_or (set (frame (ws ++ xs)) (return_variable P + 1) 1) y 0) on_guard z t y₁ u₁ (frame ws) (set (frame (ws ++ xs)) (return_variable P + 1) 1) cs (opened h ws xs e f d))
            λ o o' z₂ t₂ y₂ u₂ r. close d o o' z₂ t₂ y₂ u₂ r)
          where
            live_true : SafeValue (λ v. v ≡ 1) (evaluate D I.arrays (boolean 0 1) (frame (ws ++ xs)) cs u)
            live_true = unfold evaluate in sound refl

            on_guard : guarded P ≡ true → get_or (set (frame (ws ++ xs)) (return_variable P + 1) 1) P.parameters 0 ≢ 0
            on_guard p = rw (get_or-set_other (frame (ws ++ xs)) (return_variable P + 1) P.parameters 1 0 (λ q. let i = typed_parameters h in absurd (omega arith)), frame_value (ws ++ xs) P.parameters) (g p)
        go false d = unfold closed in
            sim_map (open_end d)
            (simulated_block (layout_of I P) C D budget budget' J K ks kq P.body (scope_of I P) (guarded P) P.parameters false (first_pair I.arrays P) (body_block h)
            (λ y. get_or (frame (ws ++ xs)) y 0) on_guard z t y u (frame ws) (frame (ws ++ xs)) cs (started h ws xs (frame (ws ++ xs)) e f (frame_length (ws ++ xs) short) (λ y _. refl) (λ q. absurd (true≢false (sym q ∙ d)))))
          where
            on_guard : guarded P ≡ true → get_or (frame (ws ++ xs)) P.parameters 0 ≢ 0
            on_guard p = rw (frame_value (ws ++ xs) P.parameters) (g p)

    -- a procedure and its compiled form end alike
    pub sim_body : (ws xs : List ℕ) → length ws ≡ P.parameters → length xs ≡ guards P → (guarded P ≡ true → get_or (ws ++ xs) P.parameters 0 ≢ 0)
        → (z : ℕ) (t : T) (y : ℕ) (u : U) (cs : List ℕ)
        → Sim SameGiven (and_go (run_block C budget I.arrays J P.body z t (frame ws) cs) finish)
        (and_go (run_block D budget' I.arrays K (compiled_body I.procedures I.arrays P) y u (frame (ws ++ xs)) cs) finish)
    sim_body ws xs e f g z t y u cs = sim_go (sim_code ws xs e f g z t y u cs) λ p q z₁ y₁ t₁ u₁ c. sim_finish p q z₁ y₁ t₁ u₁ c

  module _ {U : Type 0} (D : Trace U) (budget' : ℕ) (K : Callee U) (kq : InactiveCallee I.procedures K) where
    inactive_code : guarded P ≡ true → (ws : List ℕ) → length ws ≡ P.parameters → (y : ℕ) (u : U) (cs : List ℕ)
        → Safe (Leaves cs) (run_block D budget' I.arrays K (compiled_body I.procedures I.arrays P) y u (frame (ws ++ (0 ∷ []))) cs)
    unfolding compiled_body
    inactive_code g ws e y u cs = go (defers I.arrays P) refl
      where
        size : length (frame (ws ++ (0 ∷ []))) ≡ 255
        size = frame_length (ws ++ (0 ∷ [])) (let n = length-append ws (0 ∷ []) in let p = few_parameters h in omega arith)

        leave : {vs : List ℕ} (o : Outcome) → Next (Unchanged (layout_of I P) (scope_of I P) vs) cs o → Leaves cs o
        leave (next _ _) (onward n) = leaves
        leave (back _ _) h = elim h [ ]

        go : (d : Bool) → defers I.arrays P ≡ d → Safe (Leaves cs) (run_block D budget' I.arrays K (closed d (return_variable P) (body_code I P)) y u (frame (ws ++ (0 ∷ []))) cs)
        go true d = unfold closed in
            safe_step D budget' I.arrays K {P = λ vs. vs ≡ set (frame (ws ++ (0 ∷ []))) (return_variable P + 1) 1} (assign (return_variable P + 1) (boolean 0 1)) (followed_by (body_code I P) (one (return (variable 0 (return_variable P))))) y u (frame (ws ++ (0 ∷ []))) cs cs
            (λ w. safe_assign D budget' I.arrays K (return_variable P + 1) (boolean 0 1) w u (frame (ws ++ (0 ∷ []))) cs live_true λ v q. rw q refl)
            λ y₁ u₁ vs q. rw q (safe_followed D budget' I.arrays K (body_code I P) (one (return (variable 0 (return_variable P)))) y₁ u₁ (set (frame (ws ++ (0 ∷ []))) (return_variable P + 1) 1) cs cs
            (inactive_block (layout_of I P) D budget' K kq P.body (scope_of I P) (guarded P) P.parameters false (first_pair I.arrays P) (body_block h) y₁ u₁ (set (frame (ws ++ (0 ∷ []))) (return_variable P + 1) 1) cs
            (off_start h g ws (set (frame (ws ++ (0 ∷ []))) (return_variable P + 1) 1) e (length-set (frame (ws ++ (0 ∷ []))) (return_variable P + 1) 1 ∙ size) (λ y i. get_or-set_other (frame (ws ++ (0 ∷ []))) (return_variable P + 1) y 1 0 i)))
            λ y₂ u₂ us _. safe_map (λ o r. rw r leaves_back) (closing D budget' I.arrays K (return_variable P) (get_or us (return_variable P) 0) us cs refl y₂ u₂))
          where
            live_true : SafeValue (λ v. v ≡ 1) (evaluate D I.arrays (boolean 0 1) (frame (ws ++ (0 ∷ []))) cs u)
            live_true = unfold evaluate in sound refl
        go false d = unfold closed in
            safe_map leave
            (inactive_block (layout_of I P) D budget' K kq P.body (scope_of I P) (guarded P) P.parameters false (first_pair I.arrays P) (body_block h) y u (frame (ws ++ (0 ∷ []))) cs
            (off_start h g ws (frame (ws ++ (0 ∷ []))) e size (λ y _. refl)))

    -- a guarded procedure's compiled form, called with a guard of 0, leaves the cells as they were
    pub inactive_body : guarded P ≡ true → (ws : List ℕ) → length ws ≡ P.parameters → (y : ℕ) (u : U) (cs : List ℕ)
        → Safe (Unmoved cs) (and_go (run_block D budget' I.arrays K (compiled_body I.procedures I.arrays P) y u (frame (ws ++ (0 ∷ []))) cs) finish)
    inactive_body g ws e y u cs = safe_go (inactive_code g ws e y u cs) λ p z t c. safe_finish p z t c
