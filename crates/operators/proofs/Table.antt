-- The program's table is the definition's.
-- Assumes nothing.
use Rattle.std.proofs.Common.{◌≡◌, ℕ, List, map, get_or, sym, ◌∙◌, ap}
use lib.ListN.{get_or-map}
use Rattle.definitions.specs.Operators.{row, operators, operator}
use Rattle.operators.specs.Rows.{view}
use Rattle.operators.specs.declared.Row.{Row}

-- Where this is cited, antt computes all rows of the code's table and compares them with the definition's.
pub entry : (rows : List Row) → map view rows ≡ operators → (op : ℕ) (first : Row) → view first ≡ row 0 0 0
    → view (get_or rows op first) ≡ operator op
entry rows e op first f = sym (get_or-map view rows op first) ∙ ap (λ r. get_or (map view rows) op r) f ∙ ap (λ rs. get_or rs op (row 0 0 0)) e
