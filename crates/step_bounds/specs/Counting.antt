-- What the walk over a part that was read finds of it: the place after it, and, beside what was found before it, its cost, the first for whose bounds
-- are not constants, and the lowest procedure with such a for that its calls lead to. Assumes nothing.
use Rattle.std.specs.Prelude.{ℕ, ◌+◌, min, Bool, true, false, List, [], ◌∷◌, ◌≡◌, leb, get_or, Option, Some, None, unwrap_or}
use Rattle.definitions.specs.Choice.{pick}
use Rattle.definitions.specs.declared.Answer.{Answer}
use Rattle.definitions.specs.declared.Answer.TheVariants.{Done, Refused}
use Rattle.definitions.specs.Image.{Statement, assign, store, conditional, loop, return, call, Block, done, sequence}
use Rattle.definitions.specs.Image.{Procedure, procedure_at}
use Rattle.definitions.specs.Reading.{Parse, got, refused}
use Rattle.definitions.specs.StepBounds.{statement_cost, block_cost, statement_variable_fors, block_variable_fors, variable_fors_in}
use Rattle.step_bounds.specs.declared.walk.Summary.{Summary}
use Rattle.step_bounds.specs.declared.walk.Counted.{Counted}
use Rattle.step_bounds.specs.declared.Obstacle.{Obstacle}
use Rattle.step_bounds.specs.declared.Obstacle.TheVariants.{OwnFor, CalleeFor, AboveLimit}

-- a cost, or the first number above the limit
abbrev pub capped : ℕ → ℕ
capped n = min n 4294967296

-- what is known of a procedure: nothing, where there is none
abbrev pub nothing_found : Summary
nothing_found = record { cost = 0; first = None; lowest = None }

abbrev pub summary_at : List Summary → ℕ → Summary
summary_at summaries g = get_or summaries g nothing_found

abbrev pub cost_at : List Summary → ℕ → ℕ
cost_at summaries g = (summary_at summaries g).cost

abbrev pub lowest_at : List Summary → ℕ → Option ℕ
lowest_at summaries g = (summary_at summaries g).lowest

-- whether there is a for in a list of places, and the first, after one or none that was found before
unfoldable pub some : List ℕ → Bool
some [] = false
some (q ∷ l) = true

unfoldable pub first_after : Option ℕ → List ℕ → Option ℕ
first_after (Some p) l = Some p
first_after None [] = None
first_after None (q ∷ l) = Some q

-- the lower of two procedures, where there is one
unfoldable pub lower : Option ℕ → Option ℕ → Option ℕ
lower None b = b
lower (Some g) None = Some g
lower (Some g) (Some h) = Some (min g h)

-- the lowest of the procedures that calls lead to, over the one that each callee leads to
module _ (lowest : ℕ → Option ℕ) where
  unfoldable mutual
    pub statement_lowest : Statement → Option ℕ
    statement_lowest (assign x e) = None
    statement_lowest (store a i e) = None
    statement_lowest (conditional c a b) = lower (block_lowest a) (block_lowest b)
    statement_lowest (loop x f t b) = block_lowest b
    statement_lowest (return e) = None
    statement_lowest (call f x es) = lowest f

    pub block_lowest : Block → Option ℕ
    block_lowest done = None
    block_lowest (sequence p s b) = lower (statement_lowest s) (block_lowest b)

-- a step, up to a place; into a block
abbrev pub stepped : Counted → ℕ → Counted
stepped c next = record { at = next; cost = capped (c.cost + 1); first = c.first; lowest = c.lowest }

abbrev pub entered : Counted → Bool → ℕ → Counted
entered c v block =
    record { at = block; cost = 0; first = first_after c.first (pick v (c.at ∷ []) []); lowest = c.lowest }

-- nothing more, at a place
abbrev pub nothing : Counted → ℕ → Counted
nothing c at = record { at = at; cost = c.cost; first = c.first; lowest = c.lowest }

-- over what is known of the procedures before
module _ (callees : List Summary) (c : Counted) where
  unfoldable pub counted : Parse Statement → Counted
  counted (got s m) =
      record {
        at = m;
        cost = capped (c.cost + statement_cost (cost_at callees) s);
        first = first_after c.first (statement_variable_fors c.at s);
        lowest = lower c.lowest (statement_lowest (lowest_at callees) s);
      }
  counted (refused m p) = nothing c 0

  unfoldable pub counted_block : Parse Block → Counted
  counted_block (got b m) =
      record {
        at = m;
        cost = capped (c.cost + block_cost (cost_at callees) b);
        first = first_after c.first (block_variable_fors b);
        lowest = lower c.lowest (block_lowest (lowest_at callees) b);
      }
  counted_block (refused m p) = nothing c 0

-- what was found of the body of procedure g
pub record CountedProcedure (ps : List Procedure) (callees : List Summary) (g : ℕ) (s : Summary) : Type 0 where
  pub cost_is : s.cost ≡ capped (block_cost (cost_at callees) (procedure_at ps g).body)
  pub first_is : s.first ≡ first_after None (variable_fors_in ps g)
  pub lowest_is : s.lowest ≡ block_lowest (lowest_at callees) (procedure_at ps g).body

-- the lowest procedure with such a for, among a procedure, by its first for, and those that its calls lead to
unfoldable pub with_own : Option ℕ → ℕ → Option ℕ → Option ℕ
with_own None g lowest = lowest
with_own (Some p) g lowest = lower (Some g) lowest

-- "33 .. after 32", and the procedure's own fors before those of its callees
unfoldable pub obstacle_of : Option ℕ → Option ℕ → Bool → Option Obstacle
obstacle_of (Some p) lowest above = Some (OwnFor p)
obstacle_of None (Some g) above = Some (CalleeFor g)
obstacle_of None None true = Some AboveLimit
obstacle_of None None false = None

abbrev pub first_obstacle : Summary → Option Obstacle
first_obstacle s = obstacle_of s.first s.lowest (leb 4294967296 s.cost)

-- the answer by what was found of a procedure and of those before it
unfoldable pub answered : ℕ → List Summary → Option Obstacle → Answer
answered cost callees (Some (OwnFor p)) = Refused 32 p
answered cost callees (Some (CalleeFor g)) = Refused 32 (unwrap_or (summary_at callees g).first 0)
answered cost callees (Some AboveLimit) = Refused 33 0
answered cost callees None = Done cost 0 0

abbrev pub judged : Summary → List Summary → Answer
judged s callees = answered s.cost callees (first_obstacle s)
