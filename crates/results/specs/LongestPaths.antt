-- Document 02, wish 11: "statements plus passes, the larger arm of each if, callees included". What a procedure costs is how many steps the longest path
-- through it takes. Assumes nothing.
use Prim.Native.Nat.{ℕ, zero, suc, ◌+◌, ◌*◌, ◌-◌, ◌≤◌, ◌<◌, max}
use Rattle.std.specs.Prelude.{Bool, List, ◌≡◌, leb}
use Rattle.std.proofs.Math.Bool.{true, false}
use Rattle.std.proofs.Math.Path.{refl}
use Rattle.std.proofs.Common.{one-add, arith}
use borrow.Author.Tests.{eqb-true, eqb-false, eq-eqb, leb-true, leb-false}
use Rattle.std.proofs.Math.Dec.{eqb}
use Rattle.definitions.specs.Choice.{pick}
use Rattle.definitions.specs.Image.{Expression, Statement, assign, store, conditional, loop, return, call, Block, done, sequence}
use Rattle.definitions.specs.Image.{Procedure, Image, procedure_at}
use Rattle.definitions.specs.Labels.{constant_value}
use Rattle.definitions.specs.StepBounds.{statement_cost, block_cost, procedure_cost}
use Rattle.statements.specs.Limits.{FitsImage}
use Rattle.statements.specs.StepBounds.{CalledBy, itself_calls, then_calls, else_calls, for_calls, CalledIn, first_calls, later_calls}
use Rattle.statements.specs.StepBounds.{StatementPath, by_assign, by_store, by_then, by_else, by_for, by_return, by_call}
use Rattle.statements.specs.StepBounds.{BlockPath, by_end, by_statement, PassesPath, by_no_pass, by_pass, LongestPath, step_bound}
use Rattle.laws.specs.StepBounds.{lower_calls, cost_among}
use Rattle.results.specs.BoundedRuns.{one_pass_more}

module _ (ps : List Procedure) where
  -- ---- A path that takes as many steps as a statement, a block or so many passes cost, where there is one for each callee

  module _ (callee : ℕ → ℕ) where
    -- for each call in a block there is a path of its callee's cost
    abbrev CalleesIn : Block → Type 0
    CalleesIn b = (g : ℕ) → CalledIn g b → BlockPath ps (procedure_at ps g).body (callee g)

    abbrev CalleesBy : Statement → Type 0
    CalleesBy s = (g : ℕ) → CalledBy g s → BlockPath ps (procedure_at ps g).body (callee g)

    all_passes : (b : Block) (c : ℕ) → BlockPath ps b c → (passes : ℕ) → PassesPath ps b passes (passes * (1 + c))
    all_passes b c r zero = let e : 0 * (1 + c) ≡ 0 = omega arith in rw e by_no_pass
    all_passes b c r (suc k) = let e : suc (c + k * (1 + c)) ≡ suc k * (1 + c) = omega (arith, one_pass_more k c) in by_pass r (all_passes b c r k) e

    -- "the larger arm"
    larger_arm : {c : Expression} {a b : Block} {n m : ℕ} → BlockPath ps a n → BlockPath ps b m → StatementPath ps (conditional c a b) (1 + max n m)
    larger_arm {c} {a} {b} {n} {m} x y = go (leb m n) refl
      where
        go : (t : Bool) → leb m n ≡ t → StatementPath ps (conditional c a b) (1 + max n m)
        go true h = let l : m ≤ n = leb-true _ _ h in let e : 1 + max n m ≡ suc n = omega arith in rw e (by_then x)
        go false h = let l : n < m = leb-false _ _ h in let e : 1 + max n m ≡ suc m = omega arith in rw e (by_else y)

    mutual
      unfolding statement_cost block_cost

      statement_path : (s : Statement) → CalleesBy s → StatementPath ps s (statement_cost callee s)
      statement_path (assign x e) k = by_assign
      statement_path (store a i e) k = by_store
      statement_path (conditional c a b) k = larger_arm (block_path a (λ g q. k g (then_calls q))) (block_path b (λ g q. k g (else_calls q)))
      statement_path (loop x f t b) k =
          let passes = constant_value t - constant_value f in
          rw (one-add (passes * (1 + block_cost callee b)))
          (by_for (all_passes b (block_cost callee b) (block_path b (λ g q. k g (for_calls q))) passes))
      statement_path (return e) k = by_return
      statement_path (call f x es) k = rw (one-add (callee f)) (by_call (k f (itself_calls refl)))

      block_path : (b : Block) → CalleesIn b → BlockPath ps b (block_cost callee b)
      block_path done k = by_end
      block_path (sequence p s b) k = by_statement (statement_path s (λ g q. k g (first_calls q))) (block_path b (λ g q. k g (later_calls q))) refl

  -- what a procedure costs is what its body does, over the procedures before it
  own_cost : (f : ℕ) → procedure_cost ps (suc f) f ≡ block_cost (λ g. procedure_cost ps f g) (procedure_at ps f).body
  unfolding procedure_cost
  own_cost f = rw (eq-eqb f f refl)

  -- ---- Where only lower procedures are called

  module _ (lower : (f g : ℕ) → CalledIn g (procedure_at ps f).body → g < f) where
    procedure_path : (n f : ℕ) → f < n → BlockPath ps (procedure_at ps f).body (procedure_cost ps n f)
    unfolding procedure_cost
    procedure_path zero f h = absurd (omega arith)
    procedure_path (suc n) f h = go (eqb f n) refl (λ g. procedure_path n g)
      where
        go : (b : Bool) → eqb f n ≡ b → ((g : ℕ) → g < n → BlockPath ps (procedure_at ps g).body (procedure_cost ps n g))
            → BlockPath ps (procedure_at ps f).body (pick b (block_cost (λ g. procedure_cost ps n g) (procedure_at ps n).body) (procedure_cost ps n f))
        go true e before =
            rw (eqb-true f n e) (block_path (λ g. procedure_cost ps n g) (procedure_at ps n).body (λ g q. before g (lower n g q)))
        go false e before = let d = eqb-false f n e in before f (omega arith)

    -- no path through a part of the body of procedure f takes more than that part costs
    mutual
      unfolding statement_cost block_cost

      statement_longest : (f : ℕ) {s : Statement} {n : ℕ} → ((g : ℕ) → CalledBy g s → g < f) → StatementPath ps s n
          → n ≤ statement_cost (λ g. procedure_cost ps f g) s
      statement_longest f k by_assign = omega arith
      statement_longest f k by_store = omega arith
      statement_longest f k (by_then r) = let h = block_longest f (λ g q. k g (then_calls q)) r in omega arith
      statement_longest f k (by_else r) = let h = block_longest f (λ g q. k g (else_calls q)) r in omega arith
      statement_longest f k (by_for r) = let h = passes_longest f (λ g q. k g (for_calls q)) r in omega arith
      statement_longest f k by_return = omega arith
      statement_longest f k (by_call {f = g} r) =
          let h = block_longest g (λ i q. lower g i q) r in
          let c = cost_among ps f g (k g (itself_calls refl)) in
          let o = own_cost g in
          omega arith

      block_longest : (f : ℕ) {b : Block} {n : ℕ} → ((g : ℕ) → CalledIn g b → g < f) → BlockPath ps b n → n ≤ block_cost (λ g. procedure_cost ps f g) b
      block_longest f k by_end = omega arith
      block_longest f k (by_statement r q e) =
          let h = statement_longest f (λ g c. k g (first_calls c)) r in
          let i = block_longest f (λ g c. k g (later_calls c)) q in
          omega arith

      passes_longest : (f : ℕ) {b : Block} {passes n : ℕ} → ((g : ℕ) → CalledIn g b → g < f) → PassesPath ps b passes n
          → n ≤ passes * (1 + block_cost (λ g. procedure_cost ps f g) b)
      passes_longest f k by_no_pass = omega arith
      passes_longest f {b} k (by_pass {passes} r q o) =
          let h = block_longest f k r in
          let i = passes_longest f k q in
          let e = one_pass_more passes (block_cost (λ g. procedure_cost ps f g) b) in
          omega arith

pub longest_path : (tree : Image) → FitsImage tree → (f : ℕ) → LongestPath tree.procedures f (step_bound tree f)
longest_path tree fits f =
    let ps = tree.procedures in
    let lower = lower_calls tree fits in
    record {
      path = procedure_path ps lower (suc f) f (omega arith);
      longest = λ m r. let h = block_longest ps lower f (λ g q. lower f g q) r in let o = own_cost ps f in omega arith;
    }
