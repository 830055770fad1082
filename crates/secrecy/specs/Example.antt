-- Document 01's example image, compiled, loaded on two machines, previewed and called with the secret arguments 7 and 6: the theorem's hypotheses are
-- met, the results differ, and the theorem says that all else is the same.
-- Assumes nothing.
use Rattle.std.specs.Prelude.{◌≡◌, refl, ℕ, zero, suc, false, get_or}
use mathlib.Core.List.{List, [], ◌∷◌, flat_map}
use Rattle.std.proofs.Common.{true≢false}
use Rattle.definitions.specs.declared.Answer.TheVariants.{Done}
use Rattle.definitions.specs.Bytes.{bytes_of, words_of, lent}
use Rattle.definitions.specs.Image.{header_word, array_word, procedure_word, type_word, block_word, statement_word}
use Rattle.definitions.specs.Image.{expression_word, raw_word, place_of, cell_count, base_of}
use Rattle.definitions.specs.Faults.{least}
use Rattle.definitions.specs.Checking.{fault_of, without_fault, admitted}
use Rattle.definitions.specs.Operators.{apply_binary, apply_unary}
use Rattle.definitions.specs.Host.{load_bytes, call_bytes, preview_bytes}
use Rattle.definitions.specs.Reading
use Rattle.definitions.specs.Sorts
use Rattle.definitions.specs.Labels
use Rattle.definitions.specs.Running
use Rattle.definitions.specs.Requests
use Rattle.statements.specs.Statements.{Machine, empty, Request, turn, image_of, tree_of, secret_argument, AlikeLists}
use Rattle.statements.specs.Statements.{both_empty, both_go_on, loads, calls, previews, SameTurns}
use Rattle.secrecy.specs.Secrecy.{secrecy}
use Rattle.statements.specs.Statements

-- the words that document 01 gives for the compiled example
abbrev pub example : List ℕ
example =
    bytes_of
    (0x10010001 ∷ 0x30000104 ∷ 0x40000001 ∷ 0x40000001 ∷ 0x40000001 ∷ 0x40000003 ∷ 0x40000003 ∷ 0x40000003 ∷ 0x50000008 ∷ 0x60000002
    ∷ 0x90000001 ∷ 0x60000003 ∷ 0xD000000B ∷ 0xA0000000 ∷ 0x70000007 ∷ 0x60000004 ∷ 0xC0000000 ∷ 0xA0000003 ∷ 0x60000001 ∷ 0xE0000000
    ∷ 0xA0000003 ∷ 0x70000001 ∷ 0xA0000001 ∷ 0x60000002 ∷ 0xE0000000 ∷ 0xA0000003 ∷ 0x90000000 ∷ 0xA0000002 ∷ 0x60000001 ∷ 0xE0000000
    ∷ 0xA0000002 ∷ 0x70000000 ∷ 0xA0000001 ∷ 0x60000002 ∷ 0xE0000000 ∷ 0xA0000002 ∷ 0x90000000 ∷ 0xA0000002 ∷ 0x60040000 ∷ 0xA0000001 ∷ [])

-- load the example, then preview and call its procedure with one argument, a budget of 8 steps and a lent trace of two words
abbrev pub requests : ℕ → List ℕ → List Request
requests v trace =
    Statements.load example ∷ Statements.preview 0 (bytes_of (v ∷ [])) 8 trace ∷ Statements.call 0 (bytes_of (v ∷ [])) 8 trace ∷ []

-- the machine after the load, over one lent cell that the image has no use for
abbrev pub loaded : List ℕ → Machine
loaded cells = (turn (empty cells) (Statements.load example)).after

-- what the lent cells and traces hold at the start
abbrev pub first : List ℕ
first = 1 ∷ 2 ∷ 3 ∷ 4 ∷ []

abbrev pub second : List ℕ
second = 5 ∷ 6 ∷ 7 ∷ 8 ∷ []

abbrev pub first_trace : List ℕ
first_trace = bytes_of (1 ∷ 2 ∷ [])

abbrev pub second_trace : List ℕ
second_trace = bytes_of (3 ∷ 4 ∷ [])

-- The results differ; and the two lists are alike: the argument is secret, and there is no other.
pub compared : ((turn (loaded first) (Statements.preview 0 (bytes_of (7 ∷ [])) 8 first_trace)).answer ≡ Done 1 8 2)
    × ((turn (loaded second) (Statements.preview 0 (bytes_of (6 ∷ [])) 8 second_trace)).answer ≡ Done 0 8 2)
    × ((turn (loaded first) (Statements.call 0 (bytes_of (7 ∷ [])) 8 first_trace)).answer ≡ Done 1 8 2)
    × ((turn (loaded second) (Statements.call 0 (bytes_of (6 ∷ [])) 8 second_trace)).answer ≡ Done 0 8 2)
    × AlikeLists (empty first) (requests 7 first_trace) (requests 6 second_trace)
unfolding words_of bytes_of lent header_word array_word procedure_word type_word block_word statement_word expression_word raw_word place_of cell_count
    base_of Reading.read_expression Reading.read_arguments Reading.read_statements Reading.read_types Reading.read_procedure
    Reading.read_procedures Reading.read_arrays Reading.read_rest Reading.read_image Reading.read_statement Reading.read_block least Sorts.sort_in
    Sorts.sort_faults Sorts.argument_faults Sorts.procedure_sort_faults Sorts.procedures_sort_faults Sorts.image_sort_faults Sorts.mark_statement
    Sorts.mark_block Sorts.statement_sort_faults Sorts.block_sort_faults Labels.secret_in Labels.is_constant Labels.constant_value
    Labels.bounded_sum Labels.bounded_index Labels.label_faults Labels.argument_label_faults Labels.procedure_label_faults Labels.procedures_label_faults
    Labels.image_label_faults Labels.rc_after Labels.rc_after_block Labels.statement_label_faults Labels.block_label_faults fault_of apply_binary
    apply_unary Running.emit Running.in_array Running.index_at Running.divided Running.shifted Running.operated Running.evaluate Running.evaluate_all
    Running.tick Running.passes Running.taken Running.received Running.frame Running.finish Running.run_procedure Running.run_statement
    Running.run_block Requests.with_cells without_fault admitted flat_map Requests.ready_to_load Requests.ready_to_serve Requests.served Requests.load Requests.clear
    Requests.poke Requests.peek Requests.argument_values Requests.ended Requests.called_on Requests.served_call Requests.call Requests.preview load_bytes
    call_bytes preview_bytes turn image_of tree_of
compared = (
  refl,
  refl,
  refl,
  refl,
  both_go_on (loads (λ _. refl)) (both_go_on (previews (calls refl argument refl)) (both_go_on (calls refl argument refl) both_empty)),
)
  where
    argument : (k : ℕ) → secret_argument (image_of (loaded first).image) 0 k ≡ false
        → get_or (words_of (bytes_of (7 ∷ []))) k 0 ≡ get_or (words_of (bytes_of (6 ∷ []))) k 0
    argument zero h = absurd (true≢false h)
    argument (suc k) h = refl

-- all else is the same
pub same_7_6 : SameTurns (empty first) (empty second) (requests 7 first_trace) (requests 6 second_trace)
same_7_6 = secrecy first second (requests 7 first_trace) (requests 6 second_trace) refl compared.4
