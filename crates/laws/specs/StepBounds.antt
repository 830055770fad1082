-- What holds of step bounds: which procedures are looked at. Assumes nothing.
use Prim.Native.Nat.{ℕ, zero, suc, ◌+◌, ◌≤◌, ◌<◌}
use Rattle.std.specs.Prelude.{Bool, ◌||◌, List, ◌≡◌}
use Rattle.std.proofs.Math.Bool.{true, false}
use Rattle.std.proofs.Math.Path.{refl, ap}
use Rattle.std.proofs.Common.{sym, ◌∙◌}
use native.Mathlib.Omega.{arith}
use borrow.Author.Tests.{eqb-true, eqb-false, eq-eqb}
use Rattle.std.proofs.Math.Dec.{eqb}
use Rattle.definitions.specs.Choice.{pick}
use Rattle.definitions.specs.Image.{Statement, assign, store, conditional, loop, return, call, Block, done, sequence}
use Rattle.definitions.specs.Image.{Procedure, Image, procedure_at}
use Rattle.definitions.specs.StepBounds.{statement_calls, block_calls, procedure_cost, reaches}
use Rattle.statements.specs.Statements.{Iff}
use Rattle.statements.specs.Limits.{FitsStatement, fit_assign, fit_store, fit_return, fit_conditional, fit_loop, fit_call}
use Rattle.statements.specs.Limits.{FitsBlock, fit_block, FitsStatements, fit_done, fit_sequence, FitsProcedures, no_procedures, more_procedures}
use Rattle.statements.specs.Limits.{arity_of, FitsImage}
use Rattle.statements.specs.StepBounds.{CalledBy, itself_calls, then_calls, else_calls, for_calls, CalledIn, first_calls, later_calls}
use Rattle.statements.specs.StepBounds.{Reaches, itself, through}
use Rattle.laws.specs.Tests.{false_true, or_left, or_right}

-- one of two tests holds
either : {A : Type 0} (a b : Bool) → (a || b) ≡ true → (a ≡ true → A) → (b ≡ true → A) → A
either true b h f g = f refl
either false b h f g = g h

-- a call that passes a test is a call of some procedure that passes it
module _ (test : ℕ → Bool) where
  mutual
    unfolding statement_calls block_calls

    statement_called : (s : Statement) → statement_calls test s ≡ true → (g : ℕ) × CalledBy g s × (test g ≡ true)
    statement_called (assign x e) h = false_true h
    statement_called (store a i e) h = false_true h
    statement_called (conditional c a b) h =
        either (block_calls test a) (block_calls test b) h (λ q. let (g, k, t) = block_called a q in (g, then_calls k, t))
        (λ q. let (g, k, t) = block_called b q in (g, else_calls k, t))
    statement_called (loop x f t b) h = let (g, k, q) = block_called b h in (g, for_calls k, q)
    statement_called (return e) h = false_true h
    statement_called (call f x es) h = (f, itself_calls refl, h)

    pub block_called : (b : Block) → block_calls test b ≡ true → (g : ℕ) × CalledIn g b × (test g ≡ true)
    block_called done h = false_true h
    block_called (sequence p s b) h =
        either (statement_calls test s) (block_calls test b) h (λ q. let (g, k, t) = statement_called s q in (g, first_calls k, t))
        (λ q. let (g, k, t) = block_called b q in (g, later_calls k, t))

  -- and a call of such a procedure passes it
  module _ {g : ℕ} (t : test g ≡ true) where
    mutual
      unfolding statement_calls block_calls

      calls_statement : {s : Statement} → CalledBy g s → statement_calls test s ≡ true
      calls_statement (itself_calls e) = rw e t
      calls_statement (then_calls {c} {a} {b} k) = or_left (block_calls test a) (block_calls test b) (calls_block k)
      calls_statement (else_calls {c} {a} {b} k) = or_right (block_calls test a) (block_calls test b) (calls_block k)
      calls_statement (for_calls k) = calls_block k

      calls_block : {b : Block} → CalledIn g b → block_calls test b ≡ true
      calls_block (first_calls {p} {s} {b} k) = or_left (statement_calls test s) (block_calls test b) (calls_statement k)
      calls_block (later_calls {p} {s} {b} k) = or_right (statement_calls test s) (block_calls test b) (calls_block k)

-- "only a lower-numbered procedure" is called
module _ (arity : ℕ → ℕ) {g me : ℕ} where
  mutual
    lower_statement : {l : ℕ} {s : Statement} → FitsStatement arity me l s → CalledBy g s → g < me
    lower_statement (fit_assign h e) k = elim k [ ]
    lower_statement (fit_store h i e) k = elim k [ ]
    lower_statement (fit_return e) k = elim k [ ]
    lower_statement (fit_conditional x y z) (then_calls k) = lower_block y k
    lower_statement (fit_conditional x y z) (else_calls k) = lower_block z k
    lower_statement (fit_loop h f t b) (for_calls k) = lower_block b k
    lower_statement (fit_call f x n es) (itself_calls e) = rw (← e) f

    lower_block : {l : ℕ} {b : Block} → FitsBlock arity me l b → CalledIn g b → g < me
    lower_block (fit_block b) k = lower_statements b k

    lower_statements : {l : ℕ} {b : Block} → FitsStatements arity me l b → CalledIn g b → g < me
    lower_statements fit_done k = elim k [ ]
    lower_statements (fit_sequence s b) (first_calls k) = lower_statement s k
    lower_statements (fit_sequence s b) (later_calls k) = lower_statements b k

lower_procedure : (form : ℕ) (arity : ℕ → ℕ) {me : ℕ} {ps : List Procedure} → FitsProcedures form arity me ps → (f g : ℕ)
    → CalledIn g (procedure_at ps f).body → g < me + f
lower_procedure form arity no_procedures f g k = elim k [ ]
lower_procedure form arity (more_procedures a p ps) zero g k = let h = lower_block arity p.body_fits k in omega arith
lower_procedure form arity (more_procedures a p ps) (suc f) g k = let h = lower_procedure form arity ps f g k in omega arith

module _ (ps : List Procedure) where
  -- How many procedures there are beside f and those before it plays no part.
  pub cost_among : (n f : ℕ) → f < n → procedure_cost ps n f ≡ procedure_cost ps (suc f) f
  unfolding procedure_cost
  cost_among zero f h = absurd (omega arith)
  cost_among (suc n) f h = go (eqb f n) refl (cost_among n f)
    where
      go : (b : Bool) → eqb f n ≡ b → (f < n → procedure_cost ps n f ≡ procedure_cost ps (suc f) f)
          → procedure_cost ps (suc n) f ≡ procedure_cost ps (suc f) f
      go true e more = ap (λ (m : ℕ). procedure_cost ps (suc m) f) (sym (eqb-true f n e))
      go false e more = let d = eqb-false f n e in rw e (more (omega arith))

  pub reach_among : (n f g : ℕ) → f < n → reaches ps n f g ≡ reaches ps (suc f) f g
  unfolding reaches
  reach_among zero f g h = absurd (omega arith)
  reach_among (suc n) f g h = go (eqb f n) refl (reach_among n f g)
    where
      go : (b : Bool) → eqb f n ≡ b → (f < n → reaches ps n f g ≡ reaches ps (suc f) f g) → reaches ps (suc n) f g ≡ reaches ps (suc f) f g
      go true e more = ap (λ (m : ℕ). reaches ps (suc m) f g) (sym (eqb-true f n e))
      go false e more = let d = eqb-false f n e in rw e (more (omega arith))

  -- What is reached is the procedure itself, or called directly or through others;
  pub reach_sound : (n f g : ℕ) → reaches ps n f g ≡ true → Reaches ps f g
  unfolding reaches
  reach_sound zero f g h = false_true h
  reach_sound (suc n) f g h = go (eqb f n) refl h (λ k. reach_sound n k g)
    where
      go : (b : Bool) → eqb f n ≡ b → pick b (eqb g n || block_calls (λ k. reaches ps n k g) (procedure_at ps n).body) (reaches ps n f g) ≡ true
          → ((k : ℕ) → reaches ps n k g ≡ true → Reaches ps k g) → Reaches ps f g
      go true e h before =
          rw (eqb-true f n e)
          (either (eqb g n) (block_calls (λ k. reaches ps n k g) (procedure_at ps n).body) h (λ q. rw (eqb-true g n q) itself)
          (λ q. let (k, c, r) = block_called (λ k. reaches ps n k g) (procedure_at ps n).body q in through k c (before k r)))
      go false e h before = before f h

  -- and all these are reached, where only lower procedures are called.
  reach_complete : ((f g : ℕ) → CalledIn g (procedure_at ps f).body → g < f) → {f g : ℕ} → Reaches ps f g → (n : ℕ) → f < n → reaches ps n f g ≡ true
  unfolding reaches
  reach_complete lower {f} itself n h = reach_among n f f h ∙ rw (eq-eqb f f refl)
  reach_complete lower {f} {g} (through k c r) n h =
      reach_among n f g h
      ∙ rw (eq-eqb f f refl)
      (or_right (eqb g f) (block_calls (λ j. reaches ps f j g) (procedure_at ps f).body)
      (calls_block (λ j. reaches ps f j g) (reach_complete lower r f (lower f k c)) c))

  -- only lower procedures are reached beside the procedure itself
  pub reach_lower : (n f g : ℕ) → reaches ps n f g ≡ true → (f < n) × (g ≤ f)
  unfolding reaches
  reach_lower zero f g h = false_true h
  reach_lower (suc n) f g h = go (eqb f n) refl h (λ k. reach_lower n k g)
    where
      here : (b : Bool) → eqb g n ≡ b → (b || block_calls (λ k. reaches ps n k g) (procedure_at ps n).body) ≡ true
          → ((k : ℕ) → reaches ps n k g ≡ true → (k < n) × (g ≤ k)) → g ≤ n
      here true e h lower = let d = eqb-true g n e in omega arith
      here false e h lower =
          let (k, _, q) = block_called (λ k. reaches ps n k g) (procedure_at ps n).body h in
          let (l, m) = lower k q in omega arith

      go : (b : Bool) → eqb f n ≡ b
          → pick b (eqb g n || block_calls (λ k. reaches ps n k g) (procedure_at ps n).body) (reaches ps n f g) ≡ true
          → ((k : ℕ) → reaches ps n k g ≡ true → (k < n) × (g ≤ k)) → (f < suc n) × (g ≤ f)
      go true e h lower = let d = eqb-true f n e in let l = here (eqb g n) refl h lower in (omega arith, omega arith)
      go false e h lower = let (l, m) = lower f h in (omega arith, m)

pub lower_calls : (tree : Image) → FitsImage tree → (f g : ℕ) → CalledIn g (procedure_at tree.procedures f).body → g < f
lower_calls tree fits f g c =
    let l = lower_procedure tree.form (arity_of tree.procedures) fits.procedures_fit f g c in omega arith

pub reached_exactly : (tree : Image) → FitsImage tree → (f g : ℕ)
    → Iff (reaches tree.procedures (suc f) f g ≡ true) (Reaches tree.procedures f g)
reached_exactly tree fits f g = (
  reach_sound tree.procedures (suc f) f g,
  λ r. reach_complete tree.procedures (lower_calls tree fits) r (suc f) (omega arith),
)
