-- What the walk over statements and blocks finds is what the lemmas of Rules and Blocks say of each kind.
use Rattle.std.proofs.Common.{rules, arith, ap, ◌∙◌, refl}
use Rattle.image_words.specs.Kinds.{op_number}
use Rattle.image_words.specs.StatementParts.{op_there, read_if, read_bounds}
use Rattle.image_words.specs.Skipping.{skip_pair}
use Rattle.image_words.specs.Rest.{block_ready, next_statement}
use Rattle.locals.proofs.Rules.{small_flag, found_call, found_bare, found_for, found_else, levels_small, found_if, found_then, found_body, called_there}
use Rattle.locals.proofs.Blocks.{place_apart, block_begin, block_done, block_more, block_again}
use Rattle.locals.proofs.+blocks.Goals as goal

pub find_block-loop-init : goal.find_block-loop-init
find_block-loop-init t c = record {
  read = block_ready _ _ _ _ _ c.requires.read _ c.payload-count.ensures.0;
  same = block_begin _ _ _ _ _ _ _ _ _ _ _ c.requires.read c.payload-count.ensures.0;
}

pub find_block-find_statement-c-requires : goal.find_block-find_statement-c-requires
find_block-find_statement-c-requires t c = (search rules, next_statement _ _ _ _ _ _ _ c.loop.invariant.read c.loop-test.true)

pub find_block-loop-preserved : goal.find_block-loop-preserved
find_block-loop-preserved t c = record {
  read = block_again _ _ _ _ _ _ _ _ _ _ c.loop.c _ c.loop.invariant.read c.loop-test.true c.find_statement-c.ensures;
  same = block_more _ _ _ _ _ _ _ _ _ _ c.loop.c _ c.loop.invariant.same _ c.loop.invariant.read c.loop-test.true c.find_statement-c.ensures;
}

pub find_block-returns : goal.find_block-returns
find_block-returns t c =
    block_done _ _ _ _ _ _ _ _ _ _ _ _ c.loop.invariant.same c.loop-test.false ∙ place_apart _ _ _ _ c.args.before _ _

pub find_for-skip-n-requires : goal.find_for-skip-n-requires
find_for-skip-n-requires t c = skip_pair _ _ _ (read_bounds _ _ _ _ _ c.requires.0.read _ refl c.requires.1)

pub find_for-repeated-s-requires : goal.find_for-repeated-s-requires
find_for-repeated-s-requires t c = found_body _ _ _ _ _ c.requires.0.read _ c.requires.1 c.skip-n.ensures

pub find_for-find_block-x-requires : goal.find_for-find_block-x-requires
find_for-find_block-x-requires t c = (search rules, found_body _ _ _ _ _ c.requires.0.read _ c.requires.1 c.skip-n.ensures)

pub find_for-returns : goal.find_for-returns
find_for-returns t c =
    found_for _ _ _ _ c.args.before _ _ _ _ c.requires.0.read _ _ _ c.requires.1 c.skip-n.ensures c.repeated-s.ensures
    c.find_block-x.ensures

pub find_if-condition-c-requires : goal.find_if-condition-c-requires
find_if-condition-c-requires t c = read_if _ _ _ _ _ c.requires.0.read _ refl c.requires.1

pub find_if-find_block-x-requires : goal.find_if-find_block-x-requires
find_if-find_block-x-requires t c = (search rules, found_then _ _ _ _ _ c.requires.0.read _ _ _ c.requires.1 c.condition-c.ensures)

pub find_if-find_block-y-requires : goal.find_if-find_block-y-requires
find_if-find_block-y-requires t c = (
  omega (arith, c.decreases, c.requires.0.deep),
  found_else _ _ _ _ c.args.before _ _ _ _ c.requires.0.read c.requires.1 _ c.condition-c.ensures _ c.find_block-x.ensures,
)

pub find_if-overflow_add-from : goal.find_if-overflow_add-from
find_if-overflow_add-from t c =
    omega (
      arith,
      levels_small _ _ _ _ c.args.before _ _ _ _ c.requires.0.read c.requires.1 _ c.condition-c.ensures _ c.find_block-x.ensures _
          c.find_block-y.ensures,
      small_flag _ _ c.from.ensures,
      c.ranges,
    )

pub find_if-returns : goal.find_if-returns
find_if-returns t c = search (found_if, rules)

pub find_statement-of-requires : goal.find_statement-of-requires
find_statement-of-requires t c = op_there _ _ _ _ _ _ c.requires refl

pub find_statement-find_call-requires : goal.find_statement-find_call-requires
find_statement-find_call-requires t c = called_there _ _ _ _ _ c.requires.read _ (c.of.ensures ∙ ap op_number c.in-Call.is) c.called.ensures.0 c.args.procedure.listed

pub find_statement-returns-in-Call : goal.find_statement-returns-in-Call
find_statement-returns-in-Call t c =
    found_call _ _ _ _ c.args.before _ _ _ _ c.requires.read _ c.pass-behind.ensures _ _ (c.of.ensures ∙ ap op_number c.in-Call.is) c.called.ensures.0 c.find_call.ensures

pub find_statement-returns-in-Assign : goal.find_statement-returns-in-Assign
find_statement-returns-in-Assign t c = found_bare _ _ _ _ c.args.before _ _ _ _ c.requires.read _ c.pass.ensures _ c.of.ensures c.in-Assign.is
