-- `serving::cells::poke_machine`: what is done goes back into the lent cells.
use Rattle.std.proofs.Common.{arith, rules}
use Rattle.serving.proofs.Rules.{back_asks, poked}
use Rattle.serving.proofs.cells.poke_machine.Goals as goal

pub poke-requires : goal.poke-requires
poke-requires g c = (search rules, (search rules, rw c.lent.ensures.1 c.requires.0))

pub give_back-requires : goal.give_back-requires
give_back-requires g c = (search rules, back_asks _ _ c.lent.result c.poke.result c.lent.ensures.1 c.poke.ensures.kept c.requires.3)

pub returns : goal.returns
returns g c =
    poked c.args.cells.now (λ i. grind arith) _ c.requires.3 c.lent.result c.lent.ensures.0 c.lent.ensures.1 c.poke.result c.poke.ensures.kept _
    c.give_back.ensures.1 c.args.table.now c.args.cell.array c.args.cell.index c.args.v c.poke.ensures.gives _ c.give_back.ensures.0
