-- What the walk over a part that was read finds: the place and the rc after it, and, beside what was found before it, the nesting levels of its
-- secret ifs and whether it needs a temporary of each sort. Assumes nothing.
use Rattle.std.specs.Prelude.{ℕ, max, ◌&&◌, ◌||◌, Bool, List, eqb}
use Rattle.definitions.specs.Operators.{word_sort, boolean_sort}
use Rattle.definitions.specs.Image.{Statement, Block, Procedure, procedure_at, type_sort}
use Rattle.definitions.specs.Reading.{Parse, got, refused}
use Rattle.definitions.specs.Labels.{rc_after, rc_after_block}
use Rattle.definitions.specs.Compiling.{statement_nesting, block_nesting, statement_needs, block_needs}
use Rattle.contexts.specs.declared.Passed.{Passed}
use Rattle.locals.specs.declared.Found.{Found}

-- a call, where the place and the rc after it are those of the walk
abbrev pub after_call : List Procedure → Bool → Found → ℕ → Found
after_call ps pc c f =
    record {
      at = c.at;
      rc = c.rc;
      levels = c.levels;
      words = c.words || ((pc || c.rc) && eqb (type_sort (procedure_at ps f).result) word_sort);
      booleans = c.booleans || ((pc || c.rc) && eqb (type_sort (procedure_at ps f).result) boolean_sort);
    }

-- nothing more, behind a statement that leaves this rc
abbrev pub behind : Found → Passed → Found
behind c s = record { at = s.next; rc = s.rc; levels = c.levels; words = c.words; booleans = c.booleans }

-- nothing more, at a place
abbrev pub nothing : Found → ℕ → Found
nothing c at = record { at = at; rc = c.rc; levels = c.levels; words = c.words; booleans = c.booleans }

module _ (ps : List Procedure) (arrays types : List ℕ) (pc : Bool) (c : Found) where
  unfoldable pub found : Parse Statement → Found
  found (got x m) =
      record {
        at = m;
        rc = rc_after types arrays pc c.rc x;
        levels = max c.levels (statement_nesting arrays types x);
        words = c.words || statement_needs ps arrays types word_sort pc c.rc x;
        booleans = c.booleans || statement_needs ps arrays types boolean_sort pc c.rc x;
      }
  found (refused m p) = nothing c 0

  unfoldable pub found_block : Parse Block → Found
  found_block (got b m) =
      record {
        at = m;
        rc = rc_after_block types arrays pc c.rc b;
        levels = max c.levels (block_nesting arrays types b);
        words = c.words || block_needs ps arrays types word_sort pc c.rc b;
        booleans = c.booleans || block_needs ps arrays types boolean_sort pc c.rc b;
      }
  found_block (refused m p) = nothing c 0
