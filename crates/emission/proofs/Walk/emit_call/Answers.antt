-- The procedure that is called is listed, its values are read, and the call is what the statement becomes. Assumes nothing.
use Rattle.std.proofs.Common.{rules, arith}
use Rattle.emission.proofs.Simple.{called_listed, values_read, simple_call}
use Rattle.emission.proofs.Walk.emit_call.Goals as goal

pub is_guarded-requires : goal.is_guarded-requires
is_guarded-requires c =
    called_listed c.args.self.scope c.args.cursor _ _ _ _ c.requires.0.0.read c.requires.1 _ c.called-f.ensures.0 _ c.args.self.procedure.listed

pub result_type-requires : goal.result_type-requires
result_type-requires c =
    called_listed c.args.self.scope c.args.cursor _ _ _ _ c.requires.0.0.read c.requires.1 _ c.called-f.ensures.0 _ c.args.self.procedure.listed

pub emit_call-at-requires : goal.emit_call-at-requires
emit_call-at-requires c = (
  search rules,
  search rules,
  search rules,
  search rules,
  rw c.masking.ensures.image (values_read c.args.self.scope c.args.cursor _ _ _ _ c.requires.0.0.read c.requires.1 _ c.called-f.ensures.0 _ c.parameters.ensures),
)

pub returns : goal.returns
returns c =
    let e = rw (c.masking.ensures.image, c.masking.ensures.first) at c.emit_call-at.ensures in (
      simple_call c.args.self.scope c.args.cursor _ _ _ _ c.requires.0.0.read c.requires.1 _ c.called-f.ensures.0 _ _ _ _ _ _ _ _ _ _ _ _ _ _ _ _ _
          c.is_guarded.ensures c.parameters.ensures c.result.ensures.0 c.renumber.ensures.0 c.result_type.ensures c.type_sort.ensures.0
          c.temporary_for.ensures.0 c.statements_of.ensures.0 c.masking.ensures.act e.0,
      record {
        onward = omega (arith, e);
        within = e.2;
        statements = omega (arith, e, c.statements_of.ensures);
      },
      search rules,
    )
