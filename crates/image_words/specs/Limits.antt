-- A limit that the definitions have inside a test. Assumes nothing.
use Rattle.std.specs.Prelude.{ℕ, eqb}
use Rattle.definitions.specs.Choice.{pick}

-- "At most 8 parameters and 64 locals in form 0, 9 and 246 in form 1."
abbrev pub most_locals : ℕ → ℕ
most_locals form = pick (eqb form 0) 64 246
