-- Document 02, wish 11, by computing: the bounds of some procedures, worked out by hand from the wish's words; and which bodies are straight.
-- Assumes nothing.
use Rattle.std.specs.Prelude.{ℕ, true, false, ◌≡◌, refl}
use mathlib.Core.List.{List, [], ◌∷◌, flat_map}
use Rattle.definitions.specs.declared.Answer.{Answer}
use Rattle.definitions.specs.declared.Answer.TheVariants.{Done, Refused}
use Rattle.definitions.specs.Image.{header_word, array_word, procedure_word, type_word, block_word, statement_word}
use Rattle.definitions.specs.Image.{expression_word, raw_word, place_of, cell_count, constant, boolean, assign, conditional, loop}
use Rattle.definitions.specs.Image.{return, Block, done, sequence}
use Rattle.definitions.specs.Reading.{read_expression, read_arguments, read_statements, read_statement, read_types}
use Rattle.definitions.specs.Reading.{read_procedure, read_procedures, read_arrays, read_rest, read_image}
use Rattle.definitions.specs.Faults.{least}
use Rattle.definitions.specs.Sorts.{sort_in, mark_statement, sort_faults, argument_faults, statement_sort_faults}
use Rattle.definitions.specs.Sorts.{procedure_sort_faults, procedures_sort_faults, image_sort_faults}
use Rattle.definitions.specs.Labels.{secret_in, rc_after, is_constant, constant_value, bounded_sum, bounded_index, label_faults}
use Rattle.definitions.specs.Labels.{argument_label_faults, statement_label_faults, procedure_label_faults}
use Rattle.definitions.specs.Labels.{procedures_label_faults, image_label_faults}
use Rattle.definitions.specs.Checking.{fault_of, without_fault, admitted}
use Rattle.definitions.specs.StepBounds.{statement_cost, procedure_cost, statement_calls, reaches, statement_variable_fors}
use Rattle.definitions.specs.StepBounds.{callees_variable_fors, plain_statement, is_return, straight_body}
use Rattle.definitions.specs.Requests.{with_cells, ready_to_load, ready_to_serve, served, bounded, bound_on, bound}

-- the answer for a procedure of an image that needs no cells
abbrev BoundOf : List ℕ → ℕ → Answer → Type 0
BoundOf image f answer = (bound true image [] f).0 ≡ answer

-- an if with an assignment in one arm and two in the other
abbrev pub arms : List ℕ
arms =
    0x10000001 ∷ 0x30000001 ∷ 0x40000000 ∷ 0x40000000 ∷ 0x50000001 ∷ 0x60020000 ∷ 0x90000000 ∷ 0x50000001
    ∷ 0x60000000 ∷ 0x70000003 ∷ 0x50000002 ∷ 0x60000000 ∷ 0x70000001 ∷ 0x60000000 ∷ 0x70000002 ∷ []

-- a for of three passes over a for of four, with two assignments in it, and an assignment
abbrev pub passes : List ℕ
passes =
    0x10000001 ∷ 0x30000003 ∷ 0x40000000 ∷ 0x40000000 ∷ 0x40000000 ∷ 0x40000000 ∷ 0x50000001 ∷ 0x60030000
    ∷ 0x70000000 ∷ 0x70000003 ∷ 0x50000002 ∷ 0x60030001 ∷ 0x70000001 ∷ 0x70000005 ∷ 0x50000002 ∷ 0x60000002
    ∷ 0x70000001 ∷ 0x60000002 ∷ 0x70000002 ∷ 0x60000002 ∷ 0x70000003 ∷ []

-- a return before two assignments
abbrev pub dead : List ℕ
dead =
    0x10000001 ∷ 0x30000001 ∷ 0x40000000 ∷ 0x40000000 ∷ 0x50000003 ∷ 0x60040000 ∷ 0x70000005 ∷ 0x60000000
    ∷ 0x70000001 ∷ 0x60000000 ∷ 0x70000002 ∷ []

-- three statements; two calls of them; a for of ten passes with a call of those two
abbrev pub calls : List ℕ
calls =
    0x10000003 ∷ 0x30000001 ∷ 0x40000000 ∷ 0x40000000 ∷ 0x50000003 ∷ 0x60000000 ∷ 0x70000001 ∷ 0x60000000
    ∷ 0x70000002 ∷ 0x60040000 ∷ 0xA0000000 ∷ 0x30000001 ∷ 0x40000000 ∷ 0x40000000 ∷ 0x50000002 ∷ 0x60050000
    ∷ 0x60050000 ∷ 0x30000002 ∷ 0x40000000 ∷ 0x40000000 ∷ 0x40000000 ∷ 0x50000001 ∷ 0x60030000 ∷ 0x70000000
    ∷ 0x7000000A ∷ 0x50000001 ∷ 0x60050101 ∷ []

-- a for of 4,294,967,294 passes over nothing
abbrev pub most : List ℕ
most =
    0x10000001 ∷ 0x30000001 ∷ 0x40000000 ∷ 0x40000000 ∷ 0x50000001 ∷ 0x60030000 ∷ 0x70000000 ∷ 0x80000000
    ∷ 0xFFFFFFFE ∷ 0x50000000 ∷ []

-- a procedure one above the limit, and three that call it: from 5 to 5, from 9 to 4, from 5 to 6
abbrev pub above : List ℕ
above =
    0x10000004 ∷ 0x30000001 ∷ 0x40000000 ∷ 0x40000000 ∷ 0x50000001 ∷ 0x60030000 ∷ 0x70000000 ∷ 0x80000000
    ∷ 0xFFFFFFFF ∷ 0x50000000 ∷ 0x30000002 ∷ 0x40000000 ∷ 0x40000000 ∷ 0x40000000 ∷ 0x50000001 ∷ 0x60030000
    ∷ 0x70000005 ∷ 0x70000005 ∷ 0x50000001 ∷ 0x60050001 ∷ 0x30000002 ∷ 0x40000000 ∷ 0x40000000 ∷ 0x40000000
    ∷ 0x50000002 ∷ 0x60030000 ∷ 0x70000009 ∷ 0x70000004 ∷ 0x50000001 ∷ 0x60050001 ∷ 0x60000001 ∷ 0x70000001
    ∷ 0x30000002 ∷ 0x40000000 ∷ 0x40000000 ∷ 0x40000000 ∷ 0x50000001 ∷ 0x60030000 ∷ 0x70000005 ∷ 0x70000006
    ∷ 0x50000001 ∷ 0x60050001 ∷ []

-- 0 and 1 have a for up to their parameter, at 6 and 18; 1 calls 0, 2 calls 1 and then 0, 3 calls 0 and then 1, 4 calls 2
abbrev pub order : List ℕ
order =
    0x10000005 ∷ 0x30000101 ∷ 0x40000000 ∷ 0x40000000 ∷ 0x40000000 ∷ 0x50000001 ∷ 0x60030001 ∷ 0x70000000
    ∷ 0xA0000000 ∷ 0x50000000 ∷ 0x30000102 ∷ 0x40000000 ∷ 0x40000000 ∷ 0x40000000 ∷ 0x40000000 ∷ 0x50000002
    ∷ 0x60050002 ∷ 0xA0000000 ∷ 0x60030001 ∷ 0x70000000 ∷ 0xA0000000 ∷ 0x50000000 ∷ 0x30000001 ∷ 0x40000000
    ∷ 0x40000000 ∷ 0x50000002 ∷ 0x60050100 ∷ 0x70000004 ∷ 0x60050000 ∷ 0x70000004 ∷ 0x30000001 ∷ 0x40000000
    ∷ 0x40000000 ∷ 0x50000002 ∷ 0x60050000 ∷ 0x70000004 ∷ 0x60050100 ∷ 0x70000004 ∷ 0x30000001 ∷ 0x40000000
    ∷ 0x40000000 ∷ 0x50000001 ∷ 0x60050200 ∷ []

-- 0 and 2 have such a for, and 2 calls 1, which has none
abbrev pub apart : List ℕ
apart =
    0x10000003 ∷ 0x30000101 ∷ 0x40000000 ∷ 0x40000000 ∷ 0x40000000 ∷ 0x50000001 ∷ 0x60030001 ∷ 0x70000000
    ∷ 0xA0000000 ∷ 0x50000000 ∷ 0x30000001 ∷ 0x40000000 ∷ 0x40000000 ∷ 0x50000001 ∷ 0x60040000 ∷ 0x70000007
    ∷ 0x30000102 ∷ 0x40000000 ∷ 0x40000000 ∷ 0x40000000 ∷ 0x40000000 ∷ 0x50000002 ∷ 0x60050102 ∷ 0x60030001
    ∷ 0x70000000 ∷ 0xA0000000 ∷ 0x50000000 ∷ []

-- two such fors, one in the other
abbrev pub nested : List ℕ
nested =
    0x10000001 ∷ 0x30000102 ∷ 0x40000000 ∷ 0x40000000 ∷ 0x40000000 ∷ 0x40000000 ∷ 0x50000001 ∷ 0x60030001
    ∷ 0x70000000 ∷ 0xA0000000 ∷ 0x50000001 ∷ 0x60030002 ∷ 0x70000000 ∷ 0xA0000000 ∷ 0x50000000 ∷ []

-- one in the else-arm of an if, and one behind it
abbrev pub beside : List ℕ
beside =
    0x10000001 ∷ 0x30000101 ∷ 0x40000000 ∷ 0x40000000 ∷ 0x40000000 ∷ 0x50000002 ∷ 0x60020000 ∷ 0x90000001
    ∷ 0x50000000 ∷ 0x50000001 ∷ 0x60030001 ∷ 0x70000000 ∷ 0xA0000000 ∷ 0x50000000 ∷ 0x60030001 ∷ 0xA0000000
    ∷ 0x70000001 ∷ 0x50000000 ∷ []

-- one behind a return
abbrev pub unreached : List ℕ
unreached =
    0x10000001 ∷ 0x30000101 ∷ 0x40000000 ∷ 0x40000000 ∷ 0x40000000 ∷ 0x50000002 ∷ 0x60040000 ∷ 0x70000000
    ∷ 0x60030001 ∷ 0x70000000 ∷ 0xA0000000 ∷ 0x50000000 ∷ []

pub bounded_so :
    BoundOf arms 0 (Done 3 0 0)
    × BoundOf passes 0 (Done 46 0 0)
    × BoundOf dead 0 (Done 3 0 0)
    × BoundOf calls 0 (Done 3 0 0)
    × BoundOf calls 1 (Done 8 0 0)
    × BoundOf calls 2 (Done 101 0 0)
    × BoundOf calls 3 (Refused 17 0)
    × BoundOf most 0 (Done 4294967295 0 0)
    × BoundOf above 0 (Refused 33 0)
    × BoundOf above 1 (Done 1 0 0)
    × BoundOf above 2 (Done 2 0 0)
    × BoundOf above 3 (Refused 33 0)
    × BoundOf order 0 (Refused 32 6)
    × BoundOf order 1 (Refused 32 18)
    × BoundOf order 2 (Refused 32 6)
    × BoundOf order 3 (Refused 32 6)
    × BoundOf order 4 (Refused 32 6)
    × BoundOf apart 1 (Done 1 0 0)
    × BoundOf apart 2 (Refused 32 23)
    × BoundOf nested 0 (Refused 32 7)
    × BoundOf beside 0 (Refused 32 10)
    × BoundOf unreached 0 (Refused 32 8)
    × BoundOf [] 0 (Refused 20 0)
unfolding header_word array_word procedure_word type_word block_word statement_word expression_word raw_word place_of cell_count read_expression read_arguments read_statements read_statement read_types read_procedure read_procedures read_arrays read_rest read_image least sort_in mark_statement sort_faults argument_faults statement_sort_faults procedure_sort_faults procedures_sort_faults image_sort_faults secret_in rc_after is_constant constant_value bounded_sum bounded_index label_faults argument_label_faults statement_label_faults procedure_label_faults procedures_label_faults image_label_faults fault_of without_fault admitted flat_map with_cells ready_to_load ready_to_serve served statement_cost procedure_cost statement_calls reaches statement_variable_fors callees_variable_fors bounded bound_on bound
bounded_so = (refl, refl, refl, refl, refl, refl, refl, refl, refl, refl, refl, refl, refl, refl, refl, refl, refl, refl, refl, refl, refl, refl, refl)

-- an assignment and a return, an if, and a for, before the rest of a block
abbrev then_assign : Block → Block
then_assign rest = sequence 0 (assign 0 (constant 0 1)) rest

abbrev then_return : Block → Block
then_return rest = sequence 0 (return (constant 0 1)) rest

abbrev then_if : Block → Block
then_if rest = sequence 0 (conditional (boolean 0 1) done done) rest

abbrev then_for : Block → Block → Block
then_for body rest = sequence 0 (loop 0 (constant 0 0) (constant 0 2) body) rest

-- "an if, or a return other than as the body's last statement"
pub straight_so : (straight_body done ≡ true) × (straight_body (then_assign (then_return done)) ≡ true)
    × (straight_body (then_for (then_assign done) (then_return done)) ≡ true) × (straight_body (then_return (then_assign done)) ≡ false)
    × (straight_body (then_for (then_return done) done) ≡ false) × (straight_body (then_if (then_return done)) ≡ false)
    × (straight_body (then_for (then_if done) done) ≡ false) × (straight_body (then_return (then_return done)) ≡ false)
unfolding plain_statement is_return straight_body
straight_so = (refl, refl, refl, refl, refl, refl, refl, refl)
