-- Each turn of `read_words` reads one word more and reaches none behind.
use Rattle.std.proofs.Common.{rules}
use Rattle.std.proofs.lemmas.List.{drop-set-lt}
use Rattle.words.proofs.Steps.{read_more}
use Rattle.words.proofs.read_words.Goals as goal

pub loop-i-preserved : goal.loop-i-preserved
loop-i-preserved c = record { long = search rules; front = search (rules, read_more); behind = search (rules, drop-set-lt) }
