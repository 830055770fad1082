-- A cost that stops growing at the first number above the limit loses nothing: capped parts give the capped whole. Assumes nothing.
use Rattle.std.specs.Prelude.{ℕ, zero, suc, ◌+◌, ◌*◌, ◌-◌, max, Bool, true, false, ◌≡◌, refl, ltb}
use Rattle.std.proofs.Common.{sym, ap, ◌∙◌, zero-mul, arith, ltb-true, ltb-false}
use Rattle.definitions.specs.Image.{Statement, assign, store, conditional, loop, return, call, Block, done, sequence}
use Rattle.definitions.specs.Labels.{constant_value}
use Rattle.definitions.specs.StepBounds.{statement_cost, block_cost}
use Rattle.step_bounds.specs.Counting.{capped}

-- What is over the limit stays so, unless it is multiplied by no pass.
pub capped_passes : (passes body : ℕ) → capped (passes * (1 + capped body)) ≡ capped (passes * (1 + body))
capped_passes passes body = go (ltb body 4294967296) refl passes
  where
    go : (b : Bool) → ltb body 4294967296 ≡ b → (p : ℕ) → capped (p * (1 + capped body)) ≡ capped (p * (1 + body))
    go true e p = let l = ltb-true body 4294967296 e in let same : capped body ≡ body = omega arith in rw same refl
    go false e zero = ap capped (zero-mul (1 + capped body) ∙ sym (zero-mul (1 + body)))
    go false e (suc p) =
        let l = ltb-false body 4294967296 e in
        let same : capped body ≡ 4294967296 = omega arith in
        let x : suc p * (1 + body) ≡ (1 + body) + p * (1 + body) = omega arith in
        let y : suc p * (1 + 4294967296) ≡ (1 + 4294967296) + p * (1 + 4294967296) = omega arith in
        rw (same, x, y) (omega arith)

-- what was counted before, a step, and a capped cost
pub capped_more : (before cost x : ℕ) → x ≡ capped cost → capped (before + capped (1 + x)) ≡ capped (before + (1 + cost))
capped_more before cost x e = omega arith

pub capped_larger : (a b : ℕ) → max (capped a) (capped b) ≡ capped (max a b)
capped_larger a b = omega arith

-- two costs, and one after a step
capped_sum : (a b : ℕ) → capped (a + b) ≡ capped (capped a + capped b)
capped_sum a b = omega arith

capped_step : (a : ℕ) → capped (1 + a) ≡ capped (1 + capped a)
capped_step a = omega arith

-- the cost over capped costs of procedures
module _ (c d : ℕ → ℕ) (h : (g : ℕ) → c g ≡ capped (d g)) where
  mutual
    unfolding statement_cost block_cost

    capped_statement : (s : Statement) → capped (statement_cost c s) ≡ capped (statement_cost d s)
    capped_statement (assign x e) = refl
    capped_statement (store a i e) = refl
    capped_statement (conditional k a b) =
        capped_step (max (block_cost c a) (block_cost c b))
        ∙ ap (λ (z : ℕ). capped (1 + z))
        (sym (capped_larger (block_cost c a) (block_cost c b)) ∙ rw (capped_block a, capped_block b) refl ∙ capped_larger (block_cost d a) (block_cost d
        b))
        ∙ sym (capped_step (max (block_cost d a) (block_cost d b)))
    capped_statement (loop x f t b) =
        let n = constant_value t - constant_value f in
        let p : capped (n * (1 + block_cost c b)) ≡ capped (n * (1 + block_cost d b)) =
        sym (capped_passes n (block_cost c b)) ∙ ap (λ (z : ℕ). capped (n * (1 + z))) (capped_block b) ∙ capped_passes n (block_cost d b) in
        capped_step (n * (1 + block_cost c b)) ∙ ap (λ (z : ℕ). capped (1 + z)) p ∙ sym (capped_step (n * (1 + block_cost d b)))
    capped_statement (return e) = refl
    capped_statement (call f x es) = let p = h f in omega arith

    pub capped_block : (b : Block) → capped (block_cost c b) ≡ capped (block_cost d b)
    capped_block done = refl
    capped_block (sequence p s b) =
        capped_sum (statement_cost c s) (block_cost c b) ∙ rw (capped_statement s, capped_block b) (sym (capped_sum (statement_cost d s) (block_cost d
        b)))
