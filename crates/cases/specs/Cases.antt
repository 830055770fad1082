-- Document 01, "Cases": those that carry a star, and its example image, as one table with one theorem over the whole of it, proved by computing.
-- Assumes nothing.
use Rattle.std.specs.Prelude.{ℕ, true, ◌≡◌, refl, replicate}
use mathlib.Core.List.{List, [], ◌∷◌, flat_map}
use Rattle.definitions.specs.declared.Checked.TheVariants.{Refused as NotAccepted}
use Rattle.definitions.specs.declared.Compiled.{Compiled}
use Rattle.definitions.specs.declared.Compiled.TheVariants.{Written}
use Rattle.definitions.specs.declared.Answer.{Answer}
use Rattle.definitions.specs.declared.Answer.TheVariants.{Done, Stopped}
use Rattle.definitions.specs.Operators.{apply_binary, apply_unary}
use Rattle.definitions.specs.Image.{header_word, array_word, procedure_word, type_word, block_word, statement_word}
use Rattle.definitions.specs.Image.{expression_word, raw_word, place_of, cell_count, base_of}
use Rattle.definitions.specs.Reading.{read_expression, read_arguments, read_statements, read_statement, read_types}
use Rattle.definitions.specs.Reading.{read_procedure, read_procedures, read_arrays, read_rest, read_image}
use Rattle.definitions.specs.Faults.{least}
use Rattle.definitions.specs.Sorts.{sort_in, mark_statement, sort_faults, argument_faults, statement_sort_faults}
use Rattle.definitions.specs.Sorts.{procedure_sort_faults, procedures_sort_faults, image_sort_faults}
use Rattle.definitions.specs.Labels.{secret_in, rc_after, is_constant, constant_value, bounded_sum, bounded_index, label_faults}
use Rattle.definitions.specs.Labels.{argument_label_faults, statement_label_faults, procedure_label_faults}
use Rattle.definitions.specs.Labels.{procedures_label_faults, image_label_faults}
use Rattle.definitions.specs.Checking.{fault_of, without_fault, admitted, verdict, checked}
use Rattle.definitions.specs.Encoding.{expression_words, argument_words, statement_count, statement_words, block_words}
use Rattle.definitions.specs.Encoding.{procedure_words, procedures_words, image_words}
use Rattle.definitions.specs.Compiling.{moved, moved_all, act, masked, under, followed_by, statement_nesting, statement_needs}
use Rattle.definitions.specs.Compiling.{compiled_if, compiled_return, compiled_call, compiled_statement, closed, compiled_types}
use Rattle.definitions.specs.Compiling.{compiled_body, compiled_procedure, compiled_procedures, compiled_image, fit_locals}
use Rattle.definitions.specs.Compiling.{written, compiled_tree, compiled}
use Rattle.definitions.specs.Running.{emit, in_array, index_at, divided, shifted, operated, evaluate, evaluate_all, tick, passes}
use Rattle.definitions.specs.Running.{taken, received, run_statement, frame, finish, run_procedure}
use Rattle.definitions.specs.Requests.{with_cells, ready_to_load, ready_to_serve, argument_values, ended, called_on}
use Rattle.definitions.specs.Requests.{served_call, call}
use Rattle.statements.specs.FormerTraces.{no_shift}

-- A case: an image that the checker refuses; an image that compiles to words; a call of procedure 0 of an image without arrays.
pub data Case : Type 0 where
  -- image, number, place
  refused_image : List ℕ → ℕ → ℕ → Case
  -- image, compiled image, its length
  compiled_to : List ℕ → List ℕ → ℕ → Case
  -- image, arguments, budget, trace words lent; answer, trace words recorded
  called : List ℕ → List ℕ → ℕ → ℕ → Answer → List ℕ → Case

-- what a case says of the definitions
abbrev pub Holds : Case → Type 0
Holds (refused_image image n p) = checked true image ≡ NotAccepted n p
Holds (compiled_to image words n) = ◌≡◌ {A = Compiled × List ℕ} (compiled true image (replicate n 0)) (Written n, words)
Holds (called image arguments budget room answer trace) =
    ◌≡◌ {A = Answer × List ℕ × List ℕ} (call true image [] 0 arguments budget room) (answer, [], trace)

abbrev pub AllHold : List Case → Type 0
AllHold [] = Unit {0}
AllHold (c ∷ cs) = Holds c × AllHold cs

-- the paper's example image
abbrev pub example : List ℕ
example =
    0x10000001 ∷ 0x30000100 ∷ 0x40000001 ∷ 0x40000001 ∷ 0x50000002 ∷ 0x60020000 ∷ 0xD000000B ∷ 0xA0000000 ∷ 0x70000007
    ∷ 0x50000001 ∷ 0x60040000 ∷ 0x70000001 ∷ 0x50000000 ∷ 0x60040000 ∷ 0x70000000 ∷ []

-- as the paper lists it compiled
abbrev pub compiled_example : List ℕ
compiled_example =
    0x10010001 ∷ 0x30000104 ∷ 0x40000001 ∷ 0x40000001 ∷ 0x40000001 ∷ 0x40000003 ∷ 0x40000003 ∷ 0x40000003 ∷ 0x50000008
    ∷ 0x60000002 ∷ 0x90000001 ∷ 0x60000003 ∷ 0xD000000B ∷ 0xA0000000 ∷ 0x70000007 ∷ 0x60000004 ∷ 0xC0000000 ∷ 0xA0000003
    ∷ 0x60000001 ∷ 0xE0000000 ∷ 0xA0000003 ∷ 0x70000001 ∷ 0xA0000001 ∷ 0x60000002 ∷ 0xE0000000 ∷ 0xA0000003 ∷ 0x90000000
    ∷ 0xA0000002 ∷ 0x60000001 ∷ 0xE0000000 ∷ 0xA0000002 ∷ 0x70000000 ∷ 0xA0000001 ∷ 0x60000002 ∷ 0xE0000000 ∷ 0xA0000002
    ∷ 0x90000000 ∷ 0xA0000002 ∷ 0x60040000 ∷ 0xA0000001 ∷ []

-- return FFFFFFFF plus 1
abbrev pub sum : List ℕ
sum = 0x10000001 ∷ 0x30000000 ∷ 0x40000000 ∷ 0x50000001 ∷ 0x60040000 ∷ 0xD0000000 ∷ 0x80000000 ∷ 0xFFFFFFFF ∷ 0x70000001 ∷ []

-- return the argument rotated left by 32
abbrev pub rotation : List ℕ
rotation = 0x10000001 ∷ 0x30000100 ∷ 0x40000000 ∷ 0x40000000 ∷ 0x50000001 ∷ 0x60040000 ∷ 0xD0000008 ∷ 0xA0000000 ∷ 0x70000020 ∷ []

-- y := 5; for x from 3 to 3 { y := 9 }; return y
abbrev pub empty_loop : List ℕ
empty_loop =
    0x10000001 ∷ 0x30000002 ∷ 0x40000000 ∷ 0x40000000 ∷ 0x40000000 ∷ 0x50000003 ∷ 0x60000001 ∷ 0x70000005
    ∷ 0x60030000 ∷ 0x70000003 ∷ 0x70000003 ∷ 0x50000001 ∷ 0x60000001 ∷ 0x70000009 ∷ 0x60040000 ∷ 0xA0000001 ∷ []

abbrev pub starred : List Case
starred =
    -- "Empty image: 1."
    refused_image [] 1 0
    -- the example, as the printing program lists it
    ∷ compiled_to example compiled_example 40
    -- "Example, argument 7, source: 1, 2 steps, trace 10000005 00000001 8000000A 00000000."
    ∷ called example (7 ∷ []) 100 100 (Done 1 2 4) (0x10000005 ∷ 0x00000001 ∷ 0x8000000A ∷ 0x00000000 ∷ [])
    -- "Same compiled: 1, 8 steps, 80000026 00000000."
    ∷ called compiled_example (7 ∷ []) 100 100 (Done 1 8 2) (0x80000026 ∷ 0x00000000 ∷ [])
    -- "Argument 6 compiled: 0, same steps and trace."
    ∷ called compiled_example (6 ∷ []) 100 100 (Done 0 8 2) (0x80000026 ∷ 0x00000000 ∷ [])
    -- "Budget 7: 21 at 38."
    ∷ called compiled_example (7 ∷ []) 7 100 (Stopped 21 38 7 0) []
    -- "Budget 8, no trace words: 22 at 38."
    ∷ called compiled_example (7 ∷ []) 8 0 (Stopped 22 38 8 0) []
    -- "FFFFFFFF plus 1: 0."
    ∷ called sum [] 100 100 (Done 0 1 2) (0x80000004 ∷ 0x00000000 ∷ [])
    -- "Rotate by 32: unchanged." Document 02, wish 4: the count is recorded before the modulo, at the D word.
    ∷ called rotation (0x89ABCDEF ∷ []) 100 100 (Done 0x89ABCDEF 1 4) (0x90000006 ∷ 0x00000020 ∷ 0x80000005 ∷ 0x00000000 ∷ [])
    -- "For from 3 to 3: no pass."
    ∷ called empty_loop [] 100 100 (Done 5 3 6) (0x20000008 ∷ 0x00000003 ∷ 0x30000008 ∷ 0x00000003 ∷ 0x8000000E ∷ 0x00000000 ∷ [])
    ∷ []

-- Document 02, wish 4: "the example's traces do not move". No word of it shifts, so no call of it has moved (`wish_4` of promises/specs/Promises.antt,
-- `no_shift_same`).
pub example_has_no_shift : (no_shift example ≡ true) × (no_shift compiled_example ≡ true)
unfolding no_shift
example_has_no_shift = (refl, refl)

-- Every case of the table holds.
pub starred_hold : AllHold starred
unfolding apply_binary apply_unary header_word array_word procedure_word type_word block_word statement_word expression_word raw_word place_of cell_count base_of read_expression read_arguments read_statements read_statement read_types read_procedure read_procedures read_arrays read_rest read_image least sort_in mark_statement sort_faults argument_faults statement_sort_faults procedure_sort_faults procedures_sort_faults image_sort_faults secret_in rc_after is_constant constant_value bounded_sum bounded_index label_faults argument_label_faults statement_label_faults procedure_label_faults procedures_label_faults image_label_faults fault_of without_fault admitted verdict checked flat_map expression_words argument_words statement_count statement_words block_words procedure_words procedures_words image_words moved moved_all act masked under followed_by statement_nesting statement_needs compiled_if compiled_return compiled_call compiled_statement closed compiled_types compiled_body compiled_procedure compiled_procedures compiled_image fit_locals written compiled_tree compiled emit in_array index_at divided shifted operated evaluate evaluate_all tick passes taken received run_statement frame finish run_procedure with_cells ready_to_load ready_to_serve argument_values ended called_on served_call call
starred_hold = (refl, (refl, (refl, (refl, (refl, (refl, (refl, (refl, (refl, (refl, tt))))))))))
