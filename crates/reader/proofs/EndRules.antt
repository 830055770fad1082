-- The place after a block that is known to read. Assumes nothing.
use mathlib.Core.Path.{◌≡◌, refl, sym, ◌∙◌}
use mathlib.Core.Bool.{Bool, true, false}
use borrow.Author.Tests.{eqb-false}
use lib.Dec.{eqb}
use Rattle.std.specs.Prelude.{Some, None, Ok, is_ok}
use Rattle.definitions.specs.Choice.{pick}
use Rattle.reader.specs.Answers.{answer}
use mathlib.Core.List.{List}
use Prim.Native.Nat.{ℕ}
use lib.ListN.{get_or}
use Rattle.definitions.specs.Reading.{read_block}
use Rattle.laws.specs.Parses.{ok, end_of, got_ok, end_of_lem}
use Rattle.reader.specs.AnswerLaws.{got_of, answer_got}
use Rattle.reader.specs.Ends.{BlockEnds, known_end, table_end}

module _ (image params ends : List ℕ) (me at level : ℕ) where
  pub end_known : (e : ℕ) → BlockEnds image params ends → ok (read_block level params me image at) ≡ true → known_end (get_or ends at 0) ≡ Some e
      → e ≡ end_of (read_block level params me image at)
  end_known e s t k = go (eqb (get_or ends at 0) 0) refl k
    where
      go : (b : Bool) → eqb (get_or ends at 0) 0 ≡ b → pick b None (Some (get_or ends at 0)) ≡ Some e → e ≡ end_of (read_block level params me image at)
      go true q k = cc
      go false q k =
          let same : e ≡ get_or ends at 0 = cc in same ∙ table_end image params ends at level me s (eqb-false _ _ q) t

  pub end_again : (e : ℕ) → answer (read_block level params me image at) ≡ Ok e → e ≡ end_of (read_block level params me image at)
  end_again e d = let (b, q) = got_of (read_block level params me image at) _ e refl d in sym (end_of_lem _ b e q)

  pub block_reads : ok (read_block level params me image at) ≡ true → is_ok (answer (read_block level params me image at)) ≡ true
  block_reads t = let (b, n, q) = got_ok (read_block level params me image at) t in rw (← answer_got (read_block level params me image at) b n q)

pub ruleset end_rules = (end_known, end_again, block_reads)
