-- What `read_rest` asks of `read_procedures`, and the tables that it leaves.
use Rattle.std.proofs.Common.{arith}
use Rattle.reader.proofs.ImageRules.{begun, params_none, sound_kept, rest_tables}
use Rattle.reader.proofs.image.read_rest.Goals as goal

pub read_procedures-requires : goal.read_procedures-requires
read_procedures-requires c = (
  c.requires.0,
  c.requires.1,
  begun _ _ c.in_ok-first.ensures.read _ c.in_ok-first.ensures.left,
  sound_kept _ _ c.read_arrays.new.table _ c.requires.2 (params_none _ _ c.in_ok-first.ensures.read _ c.in_ok-first.ensures.left) c.requires.3,
)

pub returns-clause-left : goal.returns-clause-left
returns-clause-left c =
    rest_tables _ _ _ _ _ _ c.arrays.ensures _ c.in_ok-first.ensures.read c.in_ok-first.ensures.left _ c.in_ok-end.ensures.read c.in_ok-end.ensures.left (grind arith)
