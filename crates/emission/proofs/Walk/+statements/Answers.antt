-- What each function of the walk gives, and what its calls ask: the parts were read, and the numbers of the walk stay small.
use Rattle.std.proofs.Common.{rules, arith, refl, ◌∙◌}
use Rattle.image_words.specs.StatementParts.{read_if, read_bounds}
use Rattle.image_words.specs.Rest.{block_ready, next_statement}
use Rattle.emission.proofs.Branches.{ready_on, ready_arm, body_on, secret_then, secret_else}
use Rattle.emission.proofs.Branches.{secret_if_on, public_then, public_else, public_if_on, body_read, for_on}
use Rattle.emission.proofs.Blocks.{block_begin, block_done, block_again, block_more, place_apart}
use Rattle.emission.proofs.Walk.+statements.Goals as goal

pub emit_block-loop-init : goal.emit_block-loop-init
emit_block-loop-init t c = record {
  onward = search rules;
  inside = search rules;
  statements = search rules;
  same_buffer = search rules;
  reads = block_ready _ _ _ _ _ c.requires.0.read _ c.payload-count.ensures.0;
  left = block_begin _ _ _ c.args.self.scope _ _ _ _ _ _ _ _ _ c.requires.0.read c.payload-count.ensures.0;
}

pub emit_block-emit_statement-next-requires : goal.emit_block-emit_statement-next-requires
emit_block-emit_statement-next-requires t c = (
  search rules,
  (
    next_statement _ _ _ _ _ _ _ c.loop.invariant.reads c.loop-test.true,
    ready_on _ c.args.self.scope c.args.cursor _ c.requires.1 (search rules) (search rules),
  ),
)

pub emit_block-loop-preserved : goal.emit_block-loop-preserved
emit_block-loop-preserved t c = record {
  onward = search rules;
  inside = search rules;
  statements = search rules;
  same_buffer = search rules;
  reads = block_again _ _ _ c.args.self.scope _ _ _ _ _ _ c.loop.next _ _ _ _ _ c.loop.invariant.reads c.loop-test.true c.emit_statement-next.ensures.0;
  left = block_more _ _ _ c.args.self.scope _ _ _ _ _ _ c.loop.next _ _ _ c.loop.invariant.left _ _ _ c.loop.invariant.reads c.loop-test.true
      c.emit_statement-next.ensures.0;
}

pub emit_block-returns : goal.emit_block-returns
emit_block-returns t c = (
  block_done _ _ _ c.args.self.scope _ _ _ _ _ _ _ _ _ _ c.loop.invariant.left c.loop-test.false ∙ place_apart _ _ _ c.args.self.scope c.args.cursor _ _ _ _,
  record {
    onward = search rules;
    within = search rules;
    statements = search rules;
  },
  search rules,
)

pub emit_body-returns : goal.emit_body-returns
emit_body-returns t c = (
  body_on _ _ _ c.args.self.scope c.args.cursor _ _ _ c.requires.0.read _ _ _ _ _ _ _ _ c.put.ensures.0 c.emit_block-end.ensures.0 c.block_with.ensures
      c.patch.ensures.place c.patch.ensures.words,
  record {
    onward = omega (arith, c.emit_block-end.ensures.1);
    within = omega (arith, c.emit_block-end.ensures.1);
    statements = omega (arith, c.emit_block-end.ensures.1);
  },
  search rules,
)

pub emit_for-emit_for_head-at-requires : goal.emit_for-emit_for_head-at-requires
emit_for-emit_for_head-at-requires t c = (search rules, read_bounds _ _ _ _ _ c.requires.0.0.read _ refl c.requires.1)

pub emit_for-rc_after_pass-rc-requires : goal.emit_for-rc_after_pass-rc-requires
emit_for-rc_after_pass-rc-requires t c =
    body_read c.args.self.scope c.args.cursor _ _ _ _ _ _ c.requires.0.0.read _ _ _ _ c.requires.1 c.emit_for_head-at.ensures.0

pub emit_for-emit_body-b-requires : goal.emit_for-emit_body-b-requires
emit_for-emit_body-b-requires t c = (
  omega (arith, c.requires),
  (
    body_read c.args.self.scope c.args.cursor _ _ _ _ _ _ c.requires.0.0.read _ _ _ _ c.requires.1 c.emit_for_head-at.ensures.0,
    ready_on _ c.args.self.scope c.args.cursor _ c.requires.0.1 (omega (arith, c.emit_for_head-at.ensures.1)) (omega arith),
  ),
)

pub emit_for-returns : goal.emit_for-returns
emit_for-returns t c = (
  for_on _ _ _ c.args.self.scope c.args.cursor _ _ _ _ _ _ c.requires.0.0.read c.requires.1 _ _ _ _ c.emit_for_head-at.ensures.0 _ _ _ _ _ c.target.ensures.0
      c.renumber-variable.ensures.0 c.rc_after_pass-rc.ensures c.emit_body-b.ensures.0,
  record {
    onward = omega (arith, c.emit_body-b.ensures.1, c.emit_for_head-at.ensures);
    within = omega (arith, c.emit_body-b.ensures.1, c.emit_for_head-at.ensures);
    statements = omega (arith, c.emit_body-b.ensures.1, c.emit_for_head-at.ensures);
  },
  search rules,
)

pub emit_if-is_secret_condition-requires : goal.emit_if-is_secret_condition-requires
emit_if-is_secret_condition-requires t c = read_if _ _ _ _ _ c.requires.0.0.read _ refl c.requires.1

pub emit_public_if-emit_if_head-at-requires : goal.emit_public_if-emit_if_head-at-requires
emit_public_if-emit_if_head-at-requires t c = read_if _ _ _ _ _ c.requires.0.0.read _ refl c.requires.1

pub emit_public_if-emit_body-x-requires : goal.emit_public_if-emit_body-x-requires
emit_public_if-emit_body-x-requires t c = (
  search rules,
  (
    public_then c.args.self.scope c.args.cursor _ _ _ _ _ _ c.requires.0.0.read _ _ _ c.requires.1 c.emit_if_head-at.ensures.0,
    ready_on _ c.args.self.scope c.args.cursor _ c.requires.0.1 (omega (arith, c.emit_if_head-at.ensures.1)) (omega arith),
  ),
)

pub emit_public_if-emit_body-y-requires : goal.emit_public_if-emit_body-y-requires
emit_public_if-emit_body-y-requires t c = (
  omega (arith, c.requires),
  (
    public_else _ _ _ c.args.self.scope c.args.cursor _ _ _ _ _ _ c.requires.0.0.read c.requires.1 _ _ _ c.emit_if_head-at.ensures.0 _ _ _ c.emit_body-x.ensures.0,
    ready_on _ c.args.self.scope c.args.cursor _ c.requires.0.1 (omega (arith, c.emit_body-x.ensures.1, c.emit_if_head-at.ensures.1)) (omega arith),
  ),
)

pub emit_public_if-returns : goal.emit_public_if-returns
emit_public_if-returns t c = (
  public_if_on _ _ _ c.args.self.scope c.args.cursor _ _ _ _ _ _ c.requires.0.0.read c.requires.1 _ _ _ c.emit_if_head-at.ensures.0 _ _ _ c.emit_body-x.ensures.0 _ _ _
      c.requires.2 c.emit_body-y.ensures.0,
  record {
    onward = omega (arith, c.emit_body-y.ensures.1, c.emit_body-x.ensures.1, c.emit_if_head-at.ensures);
    within = omega (arith, c.emit_body-y.ensures.1, c.emit_body-x.ensures.1, c.emit_if_head-at.ensures);
    statements = omega (arith, c.emit_body-y.ensures.1, c.emit_body-x.ensures.1, c.emit_if_head-at.ensures);
  },
  search rules,
)

pub emit_secret_if-emit_secret_if_head-at-requires : goal.emit_secret_if-emit_secret_if_head-at-requires
emit_secret_if-emit_secret_if_head-at-requires t c =
    (read_if _ _ _ _ _ c.requires.0.0.read _ refl c.requires.1, omega (arith, c.requires), omega (arith, c.requires), omega (arith, c.requires))

pub emit_secret_if-emit_block-x-requires : goal.emit_secret_if-emit_block-x-requires
emit_secret_if-emit_block-x-requires t c = (
  search rules,
  (
    secret_then c.args.self.scope c.args.cursor _ _ _ _ _ _ c.requires.0.0.read _ _ _ _ c.requires.1 c.emit_secret_if_head-at.ensures.0,
    ready_arm _ c.args.self.scope c.args.cursor _ _ c.requires.0.1 (omega arith) (omega (arith, c.emit_secret_if_head-at.ensures.1))
        (omega (arith, c.emit_secret_if_head-at.ensures)) (omega (arith, c.requires.0.1, c.emit_secret_if_head-at.ensures.1)),
  ),
)

pub emit_secret_if-emit_block-y-requires : goal.emit_secret_if-emit_block-y-requires
emit_secret_if-emit_block-y-requires t c = (
  omega (arith, c.requires),
  (
    secret_else _ _ _ c.args.self.scope c.args.cursor _ _ _ _ _ _ c.requires.0.0.read c.requires.1 _ _ _ _ c.emit_secret_if_head-at.ensures.0 _ _ _ c.emit_block-x.ensures.0,
    ready_arm _ c.args.self.scope c.args.cursor _ _ c.requires.0.1 (omega arith) (omega (arith, c.emit_block-x.ensures.1, c.emit_secret_if_head-at.ensures.1))
        (omega (arith, c.emit_block-x.ensures.1))
        (omega (arith, c.requires.0.1, c.emit_block-x.ensures.1, c.emit_secret_if_head-at.ensures.1)),
  ),
)

pub emit_secret_if-returns : goal.emit_secret_if-returns
emit_secret_if-returns t c = (
  secret_if_on _ _ _ c.args.self.scope c.args.cursor _ _ _ _ _ _ c.requires.0.0.read c.requires.1 _ _ _ _ c.emit_secret_if_head-at.ensures.0 _ _ _ c.emit_block-x.ensures.0
      _ _ _ refl c.requires.2 c.emit_block-y.ensures.0,
  record {
    onward = omega (arith, c.emit_block-y.ensures.1, c.emit_block-x.ensures.1, c.emit_secret_if_head-at.ensures);
    within = omega (arith, c.emit_block-y.ensures.1, c.emit_block-x.ensures.1, c.emit_secret_if_head-at.ensures);
    statements = omega (arith, c.emit_block-y.ensures.1, c.emit_block-x.ensures.1, c.emit_secret_if_head-at.ensures);
  },
  search rules,
)
