-- A statement or block without a fault is compiled to one that is good: names, sorts and labels survive renumbering and masking.
-- Assumes nothing.
use Prim.Native.Nat.{ℕ, ◌+◌}
use Rattle.std.proofs.Math.Bool.{Bool, true, false}
use Rattle.std.specs.Prelude.{List, ◌≡◌, length}
use Rattle.std.proofs.Math.Path.{refl}
use Rattle.std.proofs.Common.{arith}
use Rattle.definitions.specs.Image.{type_secret, Statement, Block, done, sequence}
use Rattle.definitions.specs.Sorts.{sort_in, statement_sort_faults, block_sort_faults}
use Rattle.definitions.specs.Labels.{secret_in, statement_label_faults, block_label_faults, rc_after, rc_after_block}
use Rattle.definitions.specs.Compiling.{secret_boolean, block_nesting, statement_needs, block_needs, compiled_block, closed}
use Rattle.laws.specs.Tests.{or_left, or_right, and_not, nil_left, nil_right}
use Rattle.statements.specs.Limits.{FitsStatement, fit_assign, fit_store, fit_conditional, fit_loop, fit_return, fit_call}
use Rattle.statements.specs.Limits.{FitsBlock, fit_block, FitsStatements, fit_done, fit_sequence, arity_of}
use Rattle.readback.specs.Good.{good_boolean, good_return, good_done, good_step}
use Rattle.readback.specs.Renaming.{Marked}
use Rattle.readback.specs.Setting.{rc_block_stays, Setting, Deferred, Good', slot_sort, followed}
use Rattle.readback.specs.Setting.{slot_good, slot_assign, StatementGood, BlockGood}
use Rattle.readback.specs.Writes.{assign_good, store_good, return_good}
use Rattle.readback.specs.Branches.{loop_good, conditional_good}
use Rattle.readback.specs.Passing.{call_good}

module _ (here : Setting) where
  open here use {form, ps, arrays, types, me, parameters, result, first, rv}

  step_good : (p : ℕ) (s : Statement) (b : Block) → StatementGood here s → BlockGood here b → BlockGood here (sequence p s b)
  unfolding block_sort_faults block_label_faults compiled_block block_nesting block_needs rc_after_block
  step_good p s b gs gb pc arm rc k marks marks' bounds m a d pairs temporaries sorts labels =
      let fs = statement_sort_faults ps parameters types result (length arrays) marks p s in
      let fb = block_sort_faults ps parameters types result (length arrays) marks b in
      let ls = statement_label_faults form ps arrays types result bounds pc rc p s in
      let rc' = rc_after types arrays pc rc s in
      let lb = block_label_faults form ps arrays types result bounds pc rc' b in
      let ns : ℕ → Bool = λ t. statement_needs ps arrays types t pc rc s in
      let nb : ℕ → Bool = λ t. block_needs ps arrays types t pc rc' b in
      followed here
      (gs pc arm rc k marks marks' bounds p m a (λ e. d (rw e (rc_block_stays types arrays b pc))) (λ y h g. pairs y h (omega arith))
      (λ t h e. temporaries t h (or_left (ns t) (nb t) e)) (nil_left fs fb sorts) (nil_left ls lb labels))
      (gb pc arm rc' k marks marks' bounds m a d (λ y h g. pairs y h (omega arith))
      (λ t h e. temporaries t h (or_right (ns t) (nb t) e)) (nil_right fs fb sorts) (nil_right ls lb labels))

  done_good : BlockGood here done
  unfolding compiled_block
  done_good pc arm rc k marks marks' bounds m a d pairs temporaries sorts labels = good_done

  -- Every statement and block.
  mutual
    pub statement_survives : {l : ℕ} {s : Statement} → FitsStatement (arity_of ps) me l s → StatementGood here s
    statement_survives (fit_assign {x = x} {e} h f) = assign_good here x e f
    statement_survives (fit_store {a = y} {i} {e} h f g) = store_good here y i e f g
    statement_survives (fit_conditional {c = c} {a} {b} f g h) = conditional_good here c a b f (block_survives g) (block_survives h)
    statement_survives (fit_loop {x = x} {f} {t} {b} h i j k) = loop_good here x f t b i j (block_survives k)
    statement_survives (fit_return {e = e} f) = return_good here e f
    statement_survives (fit_call {f = f} {x} {es} low g count fs) = call_good here f x es low count fs

    pub block_survives : {l : ℕ} {b : Block} → FitsBlock (arity_of ps) me l b → BlockGood here b
    block_survives (fit_block f) = statements_survive f

    pub statements_survive : {l : ℕ} {b : Block} → FitsStatements (arity_of ps) me l b → BlockGood here b
    statements_survive fit_done = done_good
    statements_survive (fit_sequence {p = p} {s} {b} f g) = step_good p s b (statement_survives f) (statements_survive g)

  -- "LIVE := true opens the body, return RV closes it."
  pub body_closed :
      (d : Bool) (marks marks' : List ℕ) → Marked first (length types) marks marks' → (b : Block) → (d ≡ true → Deferred here) → Good' here marks' b → Good' here marks' (closed d rv b)
  unfolding closed sort_in secret_in
  body_closed true marks marks' m b d g =
      let r = (d refl).0 in
      let t = (d refl).1 in
      good_step (slot_assign here marks marks' m (rv + 1) secret_boolean t refl (good_boolean {v = 1} (omega arith)) refl)
      (followed here g (good_step (good_return (slot_good here marks marks' m rv result r) (slot_sort here rv result r) (rw r.2 (and_not (type_secret result)))) good_done))
  body_closed false marks marks' m b d g = g
