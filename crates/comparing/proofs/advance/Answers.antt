-- Each way in which two words of the trace are passed.
use Rattle.comparing.proofs.Rules.{advance_passed, advance_parted, advance_equal}
use Rattle.comparing.proofs.advance.Goals as goal

pub returns-then-not-is_observable : goal.returns-then-not-is_observable
returns-then-not-is_observable c =
    advance_passed c.args.trace.now c.args.probe.now _ _ c.requires.0 c.requires.1 _ _ c.word-w.ensures c.kind-k.ensures _ c.is_observable.ensures
    c.if-not-is_observable.true

pub returns-then-is_next : goal.returns-then-is_next
returns-then-is_next c =
    advance_equal c.args.trace.now c.args.probe.now _ _ c.requires.0 c.requires.1 _ _ c.word-w.ensures c.kind-k.ensures _ c.is_observable.ensures
    c.if-not-is_observable.false _ c.word.ensures _ c.is_next.ensures c.if-is_next.true

pub returns : goal.returns
returns c =
    advance_parted c.args.trace.now c.args.probe.now _ _ c.requires.0 c.requires.1 _ _ c.word-w.ensures c.kind-k.ensures _ c.is_observable.ensures
    c.if-not-is_observable.false _ c.word.ensures _ c.is_next.ensures c.if-is_next.false
