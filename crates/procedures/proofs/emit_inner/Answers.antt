-- The numbers of the walk are small, and the statements join between the opening and the close.
use Rattle.std.proofs.Common.{arith}
use Rattle.procedures.proofs.Whole.{flag_small, types_few, parameters_within, few_levels, source_body, source_short, inner_on, numbers_low}
use Rattle.procedures.proofs.emit_inner.Goals as goal

pub narrow-requires : goal.narrow-requires
narrow-requires c = omega (arith, types_few _ _ _ _ c.args.procedure.listed c.requires.typed c.args.source c.requires.described)

pub number-numbers-requires : goal.number-numbers-requires
number-numbers-requires c = (
  omega (arith, c.narrow.ensures, types_few _ _ _ _ c.args.procedure.listed c.requires.typed c.args.source c.requires.described),
  few_levels _ _ _ _ c.args.procedure.listed c.requires.typed c.args.source c.requires.described,
)

pub emit_block-c-requires : goal.emit_block-c-requires
emit_block-c-requires c =
    let low = numbers_low c.args.source _ _ c.number-numbers.ensures.0 c.number-numbers.ensures.1 in (
      source_body _ _ _ _ c.args.procedure.listed c.requires.typed c.args.source c.requires.described _ _ c.largest_level.ensures c.body.ensures,
      record {
        short = source_short _ _ _ _ c.args.procedure.listed c.requires.typed c.args.source c.requires.described;
        few_statements = omega (arith, flag_small _ _ c.from-opening.ensures);
        low_pair = omega (arith, low.1);
        low_arm =
            omega (
              arith,
              types_few _ _ _ _ c.args.procedure.listed c.requires.typed c.args.source c.requires.described,
              parameters_within _ _ _ _ c.args.procedure.listed c.requires.typed c.args.source c.requires.described,
            );
        low_rv = low.0;
        low_word = low.2;
        low_boolean = low.3;
      },
    )

pub overflow_add-result : goal.overflow_add-result
overflow_add-result c = omega (arith, c.emit_block-c.ensures.1, flag_small _ _ c.from-opening.ensures, source_short _ _ _ _ c.args.procedure.listed c.requires.typed c.args.source c.requires.described)

pub returns-clause-words : goal.returns-clause-words
returns-clause-words c = (
  (inner_on _ _ _ _ c.args.procedure.listed c.requires.typed c.args.source c.requires.described _ _ _ _ _ _ _ _ _ _ _ _ c.largest_level.ensures
      c.body.ensures c.narrow.ensures c.number-numbers.ensures.0 c.from-opening.ensures c.emit_live.ensures.0 c.emit_block-c.ensures.0
      c.emit_last.ensures.0).0,
  (cc),
)

pub returns-clause-count : goal.returns-clause-count
returns-clause-count c = (
  (inner_on _ _ _ _ c.args.procedure.listed c.requires.typed c.args.source c.requires.described _ _ _ _ _ _ _ _ _ _ _ _ c.largest_level.ensures
      c.body.ensures c.narrow.ensures c.number-numbers.ensures.0 c.from-opening.ensures c.emit_live.ensures.0 c.emit_block-c.ensures.0
      c.emit_last.ensures.0).1,
  omega (arith, c.emit_block-c.ensures.1, flag_small _ _ c.from-opening.ensures, source_short _ _ _ _ c.args.procedure.listed c.requires.typed c.args.source c.requires.described),
)
