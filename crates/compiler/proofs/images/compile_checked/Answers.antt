-- The form tells whether there is anything to compile.
use Rattle.std.proofs.Common.{◌≡◌, arith}
use Rattle.compiler.proofs.CheckedRules.{form_given, source_written}
use Rattle.compiler.proofs.images.compile_checked.Goals as goal

pub returns-then-form-ne0 : goal.returns-then-form-ne0
returns-then-form-ne0 c = form_given _ _ _ c.args.program.known c.requires _ c.form.ensures c.if-form-ne0.true _ c.number.ensures

pub returns : goal.returns
returns c =
    let z : c.form.result ≡ 0 = omega arith in
    source_written _ _ _ c.args.program.known c.requires _ c.form.ensures z _ _ c.compile_accepted.ensures
