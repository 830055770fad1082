-- What a host asks of an image before it lends cells and arguments. Document 01 has no such request: the answer says of
-- an admitted image what its words say, field by field, so that no host takes words apart.
use Rattle.std.specs.Prelude.{ℕ, zero, suc, ◌+◌, Bool, ltb, leb, length, get_or, drop}
use mathlib.Core.List.{List, [], ◌∷◌, ◌++◌, flat_map}
use Rattle.definitions.specs.Choice.{pick}
use Rattle.definitions.specs.declared.Compiled.{Compiled}
use Rattle.definitions.specs.declared.Compiled.TheVariants.{Written, Refused}
use Rattle.definitions.specs.Image.{payload_of, array_secret, array_length, Procedure, Image, cell_count}
use Rattle.definitions.specs.Reading.{Parse, got, refused}
use Rattle.definitions.specs.Checking.{admitted}

-- an array: "Label 0 public, 1 secret", then its length
abbrev pub array_fields : ℕ → List ℕ
array_fields w = pick (array_secret w) 1 0 ∷ array_length w ∷ []

-- "type: sort × 2 + label; sort 0 word, 1 boolean": the type of parameter k, 0 past the last
abbrev pub parameter_type : Procedure → ℕ → ℕ
parameter_type p k = pick (ltb k p.parameters) (payload_of (get_or p.types k 0)) 0

-- n of them, from parameter k on
unfoldable pub parameter_types : Procedure → ℕ → ℕ → List ℕ
parameter_types p zero k = []
parameter_types p (suc n) k = parameter_type p k ∷ parameter_types p n (k + 1)

-- a procedure: mode (0 open, 1 guarded), number of parameters, the result's type, and nine parameters' types, since no
-- form has more
unfoldable pub procedure_fields : Procedure → List ℕ
procedure_fields p = p.mode ∷ p.parameters ∷ payload_of p.result ∷ parameter_types p 9 0

-- an image: its form, the numbers of its arrays, procedures and cells, then its arrays and its procedures
unfoldable pub description : Image → List ℕ
description image = image.form ∷ length image.arrays ∷ length image.procedures ∷ cell_count image.arrays
    ∷ flat_map array_fields image.arrays ++ flat_map procedure_fields image.procedures

-- an image that is not admitted is refused as by the checker; then "16 output slice short". Words past the result stay.
unfoldable pub described_tree : Parse Image → List ℕ → Compiled × List ℕ
described_tree (refused n p) out = (Refused n p, out)
described_tree (got image n) out = pick (leb (length (description image)) (length out))
    (Written (length (description image)), description image ++ drop (length (description image)) out) (Refused 16 0, out)

-- The description's answer, and what the lent output holds afterwards.
unfoldable pub described : Bool → List ℕ → List ℕ → Compiled × List ℕ
described whole words out = described_tree (admitted whole words) out
