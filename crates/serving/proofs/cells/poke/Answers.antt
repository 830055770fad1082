-- `serving::cells::poke`: on the image's own cells, of those that are lent.
use Rattle.std.proofs.Common.{arith}
use Rattle.definitions.specs.Bytes.{words_of}
use Rattle.definitions.specs.Host.{whole_words}
use Rattle.definitions.specs.Requests.{ready_to_serve}
use Rattle.serving.proofs.Own.{Own, serve_own}
use Rattle.serving.proofs.Rules.{poke_not, poke_done}
use Rattle.serving.proofs.cells.poke.Goals as goal
use Rattle.serving.proofs.cells.poke.Goals.{In-Ok}

own : (c : In-Ok)
    → Own c.args.image.now c.args.cells.now c.ready_to_serve.new.table (ready_to_serve (whole_words c.args.image.now) (words_of c.args.image.now)) c.in-Ok.own
own c = serve_own c.args.image.now c.args.cells.now _ _ _ c.in-Ok.is c.ready_to_serve.ensures.0 c.ready_to_serve.ensures.1

pub poke_cells-requires : goal.poke_cells-requires
poke_cells-requires c = let o = own (goal.at.poke_cells-requires c).In-Ok in (o.fits, o.few, o.enough)

pub returns-in-Err : goal.returns-in-Err
returns-in-Err c =
    poke_not c.args.image.now c.args.cells.now (λ i. omega (arith, c.type_inv.cells i)) _ _ c.in-Err.is c.ready_to_serve.ensures.0 c.args.a c.args.i c.args.v

pub returns-in-Ok : goal.returns-in-Ok
returns-in-Ok c =
    poke_done c.args.image.now c.args.cells.now _ (λ i. grind arith) _ (own (goal.at.returns-in-Ok c).In-Ok) c.args.a c.args.i c.args.v _ _ c.poke_cells.ensures
