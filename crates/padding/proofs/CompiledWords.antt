-- What the compiler writes of the routine, by computing. Assumes nothing.
use Rattle.std.specs.Prelude.{ℕ, ◌*◌, ◌/◌, ◌≤◌, true, ◌≡◌, refl, leb, length, drop, replicate}
use mathlib.Core.List.{List, [], ◌∷◌, ◌++◌, flat_map}
use Rattle.std.proofs.Common.{sym, ap, ◌∙◌, arith, le-leb}
use Rattle.definitions.specs.declared.Compiled.{Compiled}
use Rattle.definitions.specs.declared.Compiled.TheVariants.{Written}
use Rattle.definitions.specs.Bytes.{Bytes, words_of, bytes_of, lent}
use Rattle.definitions.specs.Image.{header_word, array_word, procedure_word, type_word, block_word, statement_word, expression_word, raw_word, place_of, cell_count, base_of}
use Rattle.definitions.specs.Reading.{read_expression, read_arguments, read_statements, read_statement, read_types, read_procedure, read_procedures}
use Rattle.definitions.specs.Reading.{read_arrays, read_rest, read_image}
use Rattle.definitions.specs.Faults.{least}
use Rattle.definitions.specs.Sorts.{sort_in, mark_statement, sort_faults, argument_faults, statement_sort_faults, procedure_sort_faults, procedures_sort_faults}
use Rattle.definitions.specs.Sorts.{image_sort_faults}
use Rattle.definitions.specs.Labels.{secret_in, rc_after, is_constant, constant_value, bounded_sum, bounded_index, label_faults, argument_label_faults}
use Rattle.definitions.specs.Labels.{statement_label_faults, procedure_label_faults, procedures_label_faults, image_label_faults}
use Rattle.definitions.specs.Checking.{fault_of, without_fault, admitted}
use Rattle.definitions.specs.Encoding.{expression_words, argument_words, statement_count, statement_words, block_words, procedure_words, procedures_words}
use Rattle.definitions.specs.Encoding.{image_words}
use Rattle.definitions.specs.Compiling.{moved, moved_all, act, masked, under, followed_by, statement_nesting, statement_needs, compiled_if, compiled_return}
use Rattle.definitions.specs.Compiling.{compiled_call, compiled_statement, closed, compiled_types, compiled_body, compiled_procedure, compiled_procedures}
use Rattle.definitions.specs.Compiling.{compiled_image, fit_locals, written, compiled_tree, compiled}
use Rattle.definitions.specs.Host.{compile_bytes}
use Rattle.laws.specs.WordsOfBytes.{length_words_of, lent_front}
use Rattle.padding.specs.Routine.{source_words, source, image, image_length}

-- The compiled words: two secret booleans more, T and E, and a select in the place of each branch.
abbrev pub compiled_words : List ℕ
compiled_words =
    0x10010101 ∷ 0x20010010 ∷ 0x30000005 ∷ 0x40000001 ∷ 0x40000000 ∷ 0x40000001 ∷ 0x40000001 ∷ 0x40000003 ∷ 0x40000003 ∷ 0x50000007
    ∷ 0x60000001 ∷ 0xB0000000 ∷ 0x7000000F
    ∷ 0x60000002 ∷ 0xD0000001 ∷ 0x70000010 ∷ 0xA0000001
    ∷ 0x60000003 ∷ 0xD000000E ∷ 0xD000000B ∷ 0xA0000001 ∷ 0x70000000 ∷ 0xD000000C ∷ 0x70000010 ∷ 0xA0000001
    ∷ 0x60000004 ∷ 0xC0000000 ∷ 0xA0000003
    ∷ 0x60000002 ∷ 0xE0000000 ∷ 0xA0000003 ∷ 0x700000FF ∷ 0xA0000002
    ∷ 0x60030000 ∷ 0x70000000 ∷ 0x70000010 ∷ 0x50000003
    ∷ 0x60000003 ∷ 0xD000000D ∷ 0xC0000000 ∷ 0xD000000C ∷ 0xA0000000 ∷ 0xD0000001 ∷ 0x70000010 ∷ 0xA0000001
    ∷ 0xC0000000 ∷ 0xD000000B ∷ 0xB0000000 ∷ 0xA0000000 ∷ 0xA0000001
    ∷ 0x60000004 ∷ 0xC0000000 ∷ 0xA0000003
    ∷ 0x60000002 ∷ 0xE0000000 ∷ 0xA0000003 ∷ 0x700000FF ∷ 0xA0000002
    ∷ 0x60040000 ∷ 0xA0000002
    ∷ []

-- they go to the front of any output with room for them
written_words : (out : List ℕ) → leb 60 (length out) ≡ true → ◌≡◌ {A = Compiled × List ℕ} (compiled true source_words out) (Written 60, compiled_words ++ drop 60 out)
unfolding source_words header_word array_word procedure_word type_word block_word statement_word expression_word raw_word place_of cell_count base_of read_expression read_arguments read_statements read_statement read_types read_procedure read_procedures read_arrays read_rest read_image least sort_in mark_statement sort_faults argument_faults statement_sort_faults procedure_sort_faults procedures_sort_faults image_sort_faults secret_in rc_after is_constant constant_value bounded_sum bounded_index label_faults argument_label_faults statement_label_faults procedure_label_faults procedures_label_faults image_label_faults fault_of without_fault admitted flat_map expression_words argument_words statement_count statement_words block_words procedure_words procedures_words image_words moved moved_all act masked under followed_by statement_nesting statement_needs compiled_if compiled_return compiled_call compiled_statement closed compiled_types compiled_body compiled_procedure compiled_procedures compiled_image fit_locals written compiled_tree compiled
written_words out h = rw h

-- and of lent bytes to the front
in_bytes_lem : (out : List ℕ) → leb 60 (length (words_of out)) ≡ true
    → ◌≡◌ {A = Compiled × List ℕ} (compile_bytes source out) (Written 60, lent out (compiled_words ++ drop 60 (words_of out)))
unfolding compile_bytes words_of bytes_of source_words
in_bytes_lem out h = ap (λ (r : Compiled × List ℕ). (r.0, lent out r.1)) (written_words (words_of out) h)

pub writes : (compile_bytes source (replicate (4 * image_length) 0)).0 ≡ Written image_length
unfolding words_of
writes = ap (λ (r : Compiled × List ℕ). r.0) (in_bytes_lem (replicate 240 0) refl)

pub image_words_lem : image ≡ bytes_of compiled_words
unfolding image words_of bytes_of lent
image_words_lem = ap (λ (r : Compiled × List ℕ). r.1) (in_bytes_lem (replicate 240 0) refl)

pub compiles : (out : List ℕ) → Bytes out → 4 * image_length ≤ length out
    → ◌≡◌ {A = Compiled × List ℕ} (compile_bytes source out) (Written image_length, image ++ drop (4 * image_length) out)
compiles out b h =
    let room : leb 60 (length (words_of out)) ≡ true = rw length_words_of (le-leb 60 (length out / 4) (omega arith)) in
    let front : lent out (compiled_words ++ drop 60 (words_of out)) ≡ image ++ drop 240 out =
    lent_front out compiled_words 60 b refl h ∙ ap (λ (x : List ℕ). x ++ drop 240 out) (sym image_words_lem) in
    in_bytes_lem out room ∙ ap (λ (x : List ℕ). (Written 60, x)) front
