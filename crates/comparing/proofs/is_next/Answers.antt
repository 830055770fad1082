-- Each way in which the next entry of a recording is held against one of the trace.
use Rattle.std.proofs.Common.{sym, ◌∙◌}
use borrow.Author.Tests.{eqb-true, eqb-false, le-ltb}
use Rattle.comparing.proofs.Rules.{next_none, next_otherwise, next_so}
use Rattle.comparing.proofs.is_next.Goals as goal
use Rattle.comparing.proofs.is_next.Goals.{then-at-probe, else-at-probe}

pub returns-then-word-word_with : goal.returns-then-word-word_with
returns-then-word-word_with c = elim c.if-at-probe.branch [
  | then-at-probe w ↦
      next_so c.args.probe.now _ _ _ c.requires.1 w.if-at-probe.true _ _ w.word.ensures w.word_with.ensures
      (eqb-true _ _ (sym w.value-is ∙ c.if-word-word_with.true)) _ c.word-then-word-word_with.ensures
  | else-at-probe w ↦ cc (le-ltb _ _ w.if-at-probe.false)
]

pub returns-else-word-word_with : goal.returns-else-word-word_with
returns-else-word-word_with c = elim c.if-at-probe.branch [
  | then-at-probe w ↦
      c.if-word-word_with.false
      ∙ next_otherwise c.args.probe.now _ _ _ c.requires.1 w.if-at-probe.true _ _ w.word.ensures w.word_with.ensures
      (eqb-false _ _ (sym w.value-is ∙ c.if-word-word_with.false))
  | else-at-probe w ↦ c.if-word-word_with.false ∙ next_none c.args.probe.now _ _ _ c.requires.1 w.if-at-probe.false
]
