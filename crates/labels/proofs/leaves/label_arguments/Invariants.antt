-- The arguments that are left give what all of them give.
use Rattle.std.proofs.Common.{◌-◌, ◌≡◌, get_or, true}
use Rattle.laws.specs.Parses.{ok}
use Rattle.image_words.specs.Read.{arguments_at}
use Rattle.tables.specs.Table.{arrays_in, params_in}
use Rattle.tables.specs.Looking.{procedure_in}
use Rattle.labels.specs.Enclosing.{bounds_in}
use Rattle.labels.specs.Walk.{argued_all}
use Rattle.labels.proofs.leaves.label_arguments.Given as goal

abbrev pub invariant-loop-k : goal.invariant-loop-k
invariant-loop-k l = record {
  read : ok (arguments_at (l.k-end - l.k) l.level l.around.body.image.now l.cursor.at) ≡ true;
  same : argued_all l.around.body.types.now (arrays_in l.around.body.table.now) (bounds_in l.around.enclosing.now.loops) l.around.secret
      (procedure_in l.around.body.image.now l.f).types l.k l.cursor.best
      (arguments_at (l.k-end - l.k) l.level l.around.body.image.now l.cursor.at)
      ≡ argued_all l.around.body.types.now (arrays_in l.around.body.table.now) (bounds_in l.around.enclosing.now.loops) l.around.secret
      (procedure_in l.around.body.image.now l.f).types 0 l.fn.first.best
      (arguments_at (get_or (params_in l.around.body.table.now) l.f 0) l.level l.around.body.image.now l.fn.first.at);
}
