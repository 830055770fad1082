-- `serving::cells::peek`: on the image's own cells, of those that are lent.
use Rattle.std.proofs.Common.{arith}
use Rattle.definitions.specs.Bytes.{words_of}
use Rattle.definitions.specs.Host.{whole_words}
use Rattle.definitions.specs.Requests.{ready_to_serve}
use Rattle.serving.proofs.Own.{Own, serve_own}
use Rattle.serving.proofs.Rules.{peek_not, peek_done}
use Rattle.serving.proofs.cells.peek.Goals as goal
use Rattle.serving.proofs.cells.peek.Goals.{In-Ok}

own : (c : In-Ok)
    → Own c.args.image.now c.args.cells.now c.ready_to_serve.new.table (ready_to_serve (whole_words c.args.image.now) (words_of c.args.image.now)) c.in-Ok.own
own c = serve_own c.args.image.now c.args.cells.now _ _ _ c.in-Ok.is c.ready_to_serve.ensures.0 c.ready_to_serve.ensures.1

pub peek_cells-requires : goal.peek_cells-requires
peek_cells-requires c = let o = own (goal.at.peek_cells-requires c).In-Ok in (o.fits, o.few, o.enough)

pub returns-in-Err : goal.returns-in-Err
returns-in-Err c =
    peek_not c.args.image.now c.args.cells.now (λ i. omega (arith, c.type_inv.cells i)) _ _ c.in-Err.is c.ready_to_serve.ensures.0 c.args.a c.args.i

pub returns-in-Ok : goal.returns-in-Ok
returns-in-Ok c =
    peek_done c.args.image.now c.args.cells.now _ (λ i. omega (arith, c.type_inv.cells i)) _ (own (goal.at.returns-in-Ok c).In-Ok) c.args.a c.args.i _
    c.peek_cells.ensures
