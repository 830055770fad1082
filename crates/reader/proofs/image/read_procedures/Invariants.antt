-- What the loop of `read_procedures` keeps: the procedures read so far stand in the table, and what is left to read answers what the whole does.
use Rattle.std.proofs.Common.{◌-◌, ◌≡◌}
use Rattle.definitions.specs.Reading.{read_procedures}
use Rattle.tables.specs.Table.{params_in}
use Rattle.reader.specs.Answers.{answer}
use Rattle.reader.proofs.ImageRules.{Progress}
use Rattle.reader.proofs.image.read_procedures.Given as goal

abbrev pub invariant-loop-me : goal.invariant-loop-me
invariant-loop-me l =
    Progress l.form l.count l.image l.initial.table l.fn.at l.table l.ends l.me l.at
    × (answer (read_procedures (l.count - l.me) l.form (params_in l.table) l.me l.image l.at)
    ≡ answer (read_procedures l.count l.form (params_in l.initial.table) 0 l.image l.fn.at))
