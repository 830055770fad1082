-- The seven words of a layout. Assumes nothing.
use Rattle.std.specs.Prelude.{ℕ, List}
use Rattle.definitions.specs.Host.{layout}
use Rattle.answers.specs.declared.Layout.{Layout}
use Rattle.answers.specs.declared.Status.{Status}
use Rattle.answers.specs.declared.Status.TheVariants.{Done, Stopped, Refused}

abbrev pub status_number : Status → ℕ
status_number Done = 0
status_number Stopped = 1
status_number Refused = 2

abbrev pub words_of : Layout → List ℕ
words_of l = layout (status_number l.status) l.number l.place l.result l.steps l.count
