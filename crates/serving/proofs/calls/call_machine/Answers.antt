-- `serving::calls::call_machine`: what is done goes back into the lent cells.
use Rattle.std.proofs.Common.{arith, rules}
use Rattle.serving.proofs.Rules.{back_asks, called_back}
use Rattle.serving.proofs.calls.call_machine.Goals as goal

pub give_back-requires : goal.give_back-requires
give_back-requires g c = (search rules, back_asks _ _ c.lent.result c.call-turn.result c.lent.ensures.1 c.call-turn.ensures.kept c.requires.3)

pub returns : goal.returns
returns g c =
    called_back c.args.program.image.now c.args.cells.now _ c.args.trace.now _ _ c.lent.result c.call-turn.result c.args.request.procedure
    c.args.request.arguments.now c.args.request.budget _ (λ i. grind arith) c.requires.3 c.lent.ensures.0 c.lent.ensures.1 c.call-turn.ensures
    c.give_back.ensures.0 c.give_back.ensures.1
