-- The place that an answer names, 0 where it names none. It takes one word of the answer's layout, so it has to fit one.
-- Assumes nothing.
use Rattle.std.specs.Prelude.{ℕ}
use Rattle.definitions.specs.declared.Answer.{Answer}
use Rattle.definitions.specs.declared.Answer.TheVariants.{Done, Stopped, Refused}
use Rattle.definitions.specs.declared.Checked.{Checked}
use Rattle.definitions.specs.declared.Checked.TheVariants.{Accepted, Refused as CheckRefused}
use Rattle.definitions.specs.declared.Compiled.{Compiled}
use Rattle.definitions.specs.declared.Compiled.TheVariants.{Written, Refused as CompileRefused}

abbrev pub answer_place : Answer → ℕ
answer_place (Done v z n) = 0
answer_place (Stopped k p z n) = p
answer_place (Refused k p) = p

abbrev pub checked_place : Checked → ℕ
checked_place Accepted = 0
checked_place (CheckRefused k p) = p

abbrev pub compiled_place : Compiled → ℕ
compiled_place (Written n) = 0
compiled_place (CompileRefused k p) = p
