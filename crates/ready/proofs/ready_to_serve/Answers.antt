-- An empty image, or one that is looked at as for a load.
use Rattle.std.proofs.Common.{◌∙◌, sym, ap}
use Rattle.ready.specs.Prepared.{readied}
use Rattle.ready.proofs.Rules.{empty_answer, empty_table, serve_some}
use Rattle.ready.proofs.ready_to_serve.Goals as goal

pub returns-then-image-eq0 : goal.returns-then-image-eq0
returns-then-image-eq0 c = (
  rw c.at.ensures (empty_answer c.args.image.now c.if-image-eq0.true c.args.count),
  empty_table c.args.image.now c.if-image-eq0.true c.args.table.now c.requires,
)

pub returns : goal.returns
returns c = (
  c.ready_to_load.ensures.0 ∙ ap readied (sym (serve_some c.args.image.now c.if-image-eq0.false c.args.count)),
  c.ready_to_load.ensures.1,
)
