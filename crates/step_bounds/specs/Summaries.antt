-- What is kept of the procedures before the one that is walked, and that the answer by it is the definition's. Assumes nothing.
use Rattle.std.specs.Prelude.{ℕ, zero, suc, ◌+◌, ◌-◌, ◌≤◌, ◌<◌, max, Bool, List, [], ◌∷◌, ◌++◌, ◌≡◌, leb, length, set, replicate, Option, Some, None, IfSome, unwrap_or}
use Rattle.std.proofs.Math.Bool.{true, false}
use Rattle.std.proofs.Math.Path.{refl}
use Rattle.std.proofs.Common.{sym, ap, ◌∙◌, get_or-set_same, get_or-set_other}
use native.Mathlib.Omega.{arith}
use borrow.Author.Tests.{eqb-true, eqb-false, eq-eqb, ne_eqb, leb-true, leb-false, lt-leb, le-leb}
use Rattle.std.proofs.Math.Dec.{eqb}
use Rattle.std.proofs.Math.ListN.{length-set}
use Rattle.std.proofs.lemmas.List.{length-replicate}
use Rattle.definitions.specs.Choice.{pick}
use Rattle.definitions.specs.declared.Answer.TheVariants.{Refused}
use Rattle.definitions.specs.Image.{Statement, assign, store, conditional, loop, return, call, Block, done, sequence, Procedure, procedure_at}
use Rattle.definitions.specs.StepBounds.{block_cost, procedure_cost, block_calls, reaches, variable_fors_in, callees_variable_fors, variable_fors}
use Rattle.definitions.specs.Requests.{bounded}
use Rattle.laws.specs.StepBounds.{block_called, reach_lower}
use Rattle.step_bounds.specs.Counting.{capped, nothing_found, summary_at, cost_at, lowest_at, some, first_after, lower, statement_lowest, block_lowest, with_own, CountedProcedure, obstacle_of, answered, judged}
use Rattle.step_bounds.specs.Capping.{capped_block}
use Rattle.step_bounds.specs.Ranks.{rank_of, rank_lower, rank_block, block_rank, same_block, small_block, high_block, led_block, rank_from, rank_small, rank_reached, rank_found}
use Rattle.step_bounds.specs.Ranks.{callees_none, callees_first}
use Rattle.step_bounds.specs.declared.walk.Summary.{Summary}

-- the number of a procedure that is there, where there is one
abbrev pub Few : Option ℕ → Type 0
Few a = IfSome a (λ g. g < 32)

-- the first n procedures are known
pub record Summaries (ps : List Procedure) (n : ℕ) (callees : List Summary) : Type 0 where
  pub long : length callees ≡ 32
  pub costs_are : (g : ℕ) → cost_at callees g ≡ capped (procedure_cost ps n g)
  pub ranks_are : (g : ℕ) → rank_of (lowest_at callees g) ≡ rank_from ps n g
  pub few : (g : ℕ) → Few (lowest_at callees g)
  pub firsts_are : (g : ℕ) → g < n → (summary_at callees g).first ≡ first_after None (variable_fors_in ps g)

nothings : (n g : ℕ) → summary_at (replicate n nothing_found) g ≡ nothing_found
nothings zero g = refl
nothings (suc n) zero = refl
nothings (suc n) (suc g) = nothings n g

pub none_known : (ps : List Procedure) → Summaries ps 0 (replicate 32 nothing_found)
unfolding procedure_cost rank_from
none_known ps =
    record {
      long = length-replicate {A = Summary} 32 nothing_found;
      costs_are = λ g. ap (λ (x : Summary). x.cost) (nothings 32 g);
      ranks_are = λ g. ap (λ (x : Summary). rank_of x.lowest) (nothings 32 g);
      few = λ g. rw (nothings 32 g) tt;
      firsts_are = λ g h. absurd (omega arith);
    }

few_lower : (a b : Option ℕ) → Few a → Few b → Few (lower a b)
unfolding lower
few_lower None b f g = g
few_lower (Some x) None f g = f
few_lower (Some x) (Some y) f g = omega arith

-- a procedure that calls lead to is there
module _ (lowest : ℕ → Option ℕ) (h : (g : ℕ) → Few (lowest g)) where
  mutual
    unfolding statement_lowest block_lowest

    few_statement : (s : Statement) → Few (statement_lowest lowest s)
    few_statement (assign x e) = tt
    few_statement (store a i e) = tt
    few_statement (conditional k a b) = few_lower (block_lowest lowest a) (block_lowest lowest b) (few_block a) (few_block b)
    few_statement (loop x f t b) = few_block b
    few_statement (return e) = tt
    few_statement (call f x es) = h f

    pub few_block : (b : Block) → Few (block_lowest lowest b)
    few_block done = tt
    few_block (sequence p s b) = few_lower (statement_lowest lowest s) (block_lowest lowest b) (few_statement s) (few_block b)

-- of a procedure that has such a for, and of one that has none
rank_own : (l : List ℕ) (n : ℕ) (a : Option ℕ) → rank_of (with_own (first_after None l) n a) ≡ pick (some l) (max (32 - n) (rank_of a)) (rank_of a)
unfolding first_after some with_own
rank_own [] n a = refl
rank_own (p ∷ l) n a = rank_lower (Some n) a

few_own : (first : Option ℕ) (n : ℕ) (a : Option ℕ) → n < 32 → Few a → Few (with_own first n a)
unfolding with_own
few_own None n a h k = k
few_own (Some p) n a h k = few_lower (Some n) a h k

-- the fors of one procedure that are first
own_first : (l rest : List ℕ) → some l ≡ true → (cost : ℕ) → Refused 32 (unwrap_or (first_after None l) 0) ≡ bounded (l ++ rest) cost
unfolding some first_after bounded
own_first [] rest s cost = cc
own_first (p ∷ l) rest s cost = refl

some_none : (l : List ℕ) → some l ≡ false → l ≡ []
unfolding some
some_none [] s = refl
some_none (p ∷ l) s = cc

module _ {ps : List Procedure} {n : ℕ} {callees : List Summary} (k : Summaries ps n callees) {s : Summary} (h : CountedProcedure ps callees n s) where
  cost_found : s.cost ≡ capped (block_cost (λ g. procedure_cost ps n g) (procedure_at ps n).body)
  cost_found = h.cost_is ∙ capped_block (cost_at callees) (λ g. procedure_cost ps n g) k.costs_are (procedure_at ps n).body

  rank_called : rank_of s.lowest ≡ block_rank (λ g. rank_from ps n g) (procedure_at ps n).body
  rank_called =
      ap rank_of h.lowest_is ∙ rank_block (lowest_at callees) (procedure_at ps n).body
      ∙ same_block (λ g. rank_of (lowest_at callees g)) (λ g. rank_from ps n g) k.ranks_are (procedure_at ps n).body

  pub few_lowest : Few s.lowest
  few_lowest = rw h.lowest_is (few_block (lowest_at callees) k.few (procedure_at ps n).body)

  few_ranks : rank_of s.lowest ≤ 32
  few_ranks = rw rank_called (small_block (λ g. rank_from ps n g) 32 (rank_small ps n) (procedure_at ps n).body)

  -- one more
  pub one_more : n < 32 → (lowest : Option ℕ) → lowest ≡ with_own s.first n s.lowest
      → Summaries ps (suc n) (set callees n (record { cost = s.cost; first = s.first; lowest = lowest }))
  unfolding procedure_cost rank_from
  one_more few lowest e =
      record {
        long = length-set callees n more ∙ k.long;
        costs_are = λ g. cost g (eqb g n) refl;
        ranks_are = λ g. ranked g (eqb g n) refl;
        few = λ g. there g (eqb g n) refl;
        firsts_are = λ g l. first g (eqb g n) refl l;
      }
    where
      more : Summary
      more = record { cost = s.cost; first = s.first; lowest = lowest }

      same : summary_at (set callees n more) n ≡ more
      same = get_or-set_same callees n more nothing_found (let l = k.long in omega arith)

      other : (g : ℕ) → eqb g n ≡ false → summary_at (set callees n more) g ≡ summary_at callees g
      other g d = get_or-set_other callees n g more nothing_found (eqb-false g n d)

      cost : (g : ℕ) (b : Bool) → eqb g n ≡ b → cost_at (set callees n more) g ≡ capped (procedure_cost ps (suc n) g)
      cost g true d = rw (d, eqb-true g n d) (ap (λ (x : Summary). x.cost) same ∙ cost_found)
      cost g false d = rw d (ap (λ (x : Summary). x.cost) (other g d) ∙ k.costs_are g)

      ranked : (g : ℕ) (b : Bool) → eqb g n ≡ b → rank_of (lowest_at (set callees n more) g) ≡ rank_from ps (suc n) g
      ranked g true d =
          rw (d, eqb-true g n d, ← rank_called)
          (ap (λ (x : Summary). rank_of x.lowest) same ∙ ap rank_of e ∙ ap (λ (x : Option ℕ). rank_of (with_own x n s.lowest)) h.first_is
          ∙ rank_own (variable_fors_in ps n) n s.lowest)
      ranked g false d = rw d (ap (λ (x : Summary). rank_of x.lowest) (other g d) ∙ k.ranks_are g)

      there : (g : ℕ) (b : Bool) → eqb g n ≡ b → Few (lowest_at (set callees n more) g)
      there g true d = rw (eqb-true g n d, ap (λ (x : Summary). x.lowest) same, e) (few_own s.first n s.lowest few few_lowest)
      there g false d = rw (ap (λ (x : Summary). x.lowest) (other g d)) (k.few g)

      first : (g : ℕ) (b : Bool) → eqb g n ≡ b → g < suc n → (summary_at (set callees n more) g).first ≡ first_after None (variable_fors_in ps g)
      first g true d l = rw (eqb-true g n d) (ap (λ (x : Summary). x.first) same ∙ h.first_is)
      first g false d l =
          let o = eqb-false g n d in ap (λ (x : Summary). x.first) (other g d) ∙ k.firsts_are g (omega arith)

  -- ---- the answer for procedure n

  -- a callee of procedure n is reached
  reached_lower : (g : ℕ) → g < n → reaches ps (suc n) n g ≡ block_calls (λ f. reaches ps n f g) (procedure_at ps n).body
  unfolding reaches
  reached_lower g l = rw (eq-eqb n n refl, ne_eqb g n (λ e. absurd (omega arith)))

  -- no callee with such a for is lower than the one of that rank
  constant_below : (g : ℕ) → g < n → g + rank_of s.lowest < 32 → reaches ps (suc n) n g ≡ true → variable_fors_in ps g ≡ []
  constant_below g l i r = go (some (variable_fors_in ps g)) refl
    where
      go : (b : Bool) → some (variable_fors_in ps g) ≡ b → variable_fors_in ps g ≡ []
      go true q =
          absurd (let o = high_block (λ f. rank_from ps n f) (λ f. reaches ps n f g) (32 - g) (λ f r. rank_reached ps n f g r q) (procedure_at ps n).body
          (sym (reached_lower g l) ∙ r) in let q = rank_called in omega arith)
      go false q = some_none (variable_fors_in ps g) q

  cost_is_own : s.cost ≡ capped (procedure_cost ps (suc n) n)
  unfolding procedure_cost
  cost_is_own = rw (eq-eqb n n refl) cost_found

  by_cost : (b : Bool) → leb 4294967296 s.cost ≡ b → answered s.cost callees (obstacle_of None None b) ≡ bounded [] (procedure_cost ps (suc n) n)
  unfolding bounded obstacle_of answered
  by_cost true e =
      let l = leb-true 4294967296 s.cost e in
      let q = cost_is_own in
      rw (lt-leb (procedure_cost ps (suc n) n) 4294967295 (omega arith))
  by_cost false e =
      let l = leb-false 4294967296 s.cost e in
      let q = cost_is_own in
      let same : procedure_cost ps (suc n) n ≡ s.cost = omega arith in
      rw (same, le-leb s.cost 4294967295 (omega arith))

  module _ (few : n ≤ 32) (constants : variable_fors_in ps n ≡ []) where
    by_callee : (a : Option ℕ) → s.lowest ≡ a
        → answered s.cost callees (obstacle_of None a (leb 4294967296 s.cost)) ≡ bounded (variable_fors ps n) (procedure_cost ps (suc n) n)
    unfolding obstacle_of answered
    by_callee (Some m) e =
        let there : m < 32 = rw e at few_lowest in
        let rank : rank_of s.lowest ≡ 32 - m = ap rank_of e in
        let body = (procedure_at ps n).body in
        let same : 32 - rank_of s.lowest ≡ m = omega arith in
        let l : 0 < rank_of s.lowest = omega arith in
        let found = λ (f : ℕ) (q : rank_from ps n f ≡ rank_of s.lowest). rw same at (rank_found ps n f (rank_of s.lowest) q l) in
        let r = led_block (λ f. rank_from ps n f) (λ f. reaches ps n f m) (rank_of s.lowest) l (λ f q. (found f q).0) body (sym rank_called) in
        let has = led_block (λ f. rank_from ps n f) (λ f. some (variable_fors_in ps m)) (rank_of s.lowest) l (λ f q. (found f q).1) body (sym rank_called) in
        let (g, _, t) = block_called (λ f. some (variable_fors_in ps m)) body has in
        let (f, _, q) = block_called (λ f. reaches ps n f m) body r in
        let (lower, order) = reach_lower ps n f m q in
        let below : m < n = omega arith in
        let (rest, first) = callees_first ps n m (reached_lower m below ∙ r) (λ g i. constant_below g (omega arith) (omega arith)) n below in
        rw (constants, first, k.firsts_are m below) (own_first (variable_fors_in ps m) rest t _)
    by_callee None e =
        let rank : rank_of s.lowest ≡ 0 = ap rank_of e in
        rw (constants, callees_none ps n n (λ g i. constant_below g i (omega arith))) (by_cost (leb 4294967296 s.cost) refl)

  pub answer_is : n ≤ 32 → judged s callees ≡ bounded (variable_fors ps n) (procedure_cost ps (suc n) n)
  unfolding obstacle_of answered first_after bounded
  answer_is few = own s.first refl
    where
      some_own : (p : ℕ) (l : List ℕ) → first_after None l ≡ Some p → Refused 32 p ≡ bounded (l ++ callees_variable_fors ps n n) (procedure_cost ps (suc n) n)
      some_own p [] q = cc
      some_own p (x ∷ l) q = ap (λ (z : Option ℕ). Refused 32 (unwrap_or z 0)) (sym q)

      none_own : (l : List ℕ) → first_after None l ≡ None → l ≡ []
      none_own [] q = refl
      none_own (x ∷ l) q = cc

      own : (a : Option ℕ) → s.first ≡ a
          → answered s.cost callees (obstacle_of a s.lowest (leb 4294967296 s.cost)) ≡ bounded (variable_fors ps n) (procedure_cost ps (suc n) n)
      own (Some p) e = some_own p (variable_fors_in ps n) (sym h.first_is ∙ e)
      own None e = by_callee few (none_own (variable_fors_in ps n) (sym h.first_is ∙ e)) s.lowest refl
