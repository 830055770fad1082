-- Document 02, wish 8: the numbers of T, E and the temporaries in four images, and the example by the former compiler, proved by computing. The
-- compiled words were worked out apart from the definitions. Assumes nothing.
use Rattle.std.specs.Prelude.{ℕ, true, ◌≡◌, refl, length, replicate}
use mathlib.Core.List.{List, [], ◌∷◌, flat_map}
use Rattle.definitions.specs.declared.Compiled.{Compiled}
use Rattle.definitions.specs.declared.Compiled.TheVariants.{Written}
use Rattle.definitions.specs.Image.{header_word, array_word, procedure_word, type_word, block_word, statement_word}
use Rattle.definitions.specs.Image.{expression_word, raw_word, place_of}
use Rattle.definitions.specs.Reading.{read_expression, read_arguments, read_statements, read_statement, read_types}
use Rattle.definitions.specs.Reading.{read_procedure, read_procedures, read_arrays, read_rest, read_image}
use Rattle.definitions.specs.Faults.{least}
use Rattle.definitions.specs.Sorts.{sort_in, mark_statement, sort_faults, argument_faults, statement_sort_faults}
use Rattle.definitions.specs.Sorts.{procedure_sort_faults, procedures_sort_faults, image_sort_faults}
use Rattle.definitions.specs.Labels.{secret_in, rc_after, is_constant, constant_value, bounded_sum, bounded_index}
use Rattle.definitions.specs.Labels.{label_faults, argument_label_faults, statement_label_faults, procedure_label_faults}
use Rattle.definitions.specs.Labels.{procedures_label_faults, image_label_faults}
use Rattle.definitions.specs.Checking.{fault_of, without_fault, admitted, verdict, checked}
use Rattle.definitions.specs.Encoding.{expression_words, argument_words, statement_count, statement_words, block_words}
use Rattle.definitions.specs.Encoding.{procedure_words, procedures_words, image_words}
use Rattle.definitions.specs.Compiling.{moved, moved_all, act, masked, under, followed_by, statement_nesting}
use Rattle.definitions.specs.Compiling.{statement_needs, compiled_if, compiled_return, compiled_call, compiled_statement}
use Rattle.definitions.specs.Compiling.{closed, compiled_types, compiled_body, compiled_procedure, compiled_procedures}
use Rattle.definitions.specs.Compiling.{compiled_image, fit_locals, written, compiled_tree, compiled}
use Rattle.statements.specs.FormerNumbering.{former_temporaries, former_if, former_statement, former_types, former_body, former_procedure}
use Rattle.statements.specs.FormerNumbering.{former_image, former_tree, former_compiled}
use Rattle.cases.specs.Cases.{example, compiled_example}

-- Secret ifs in both arms of a secret if, and one beside it: two levels, two pairs.
abbrev pub pairs : List ℕ
pairs =
    0x10000001 ∷ 0x30000201 ∷ 0x40000001 ∷ 0x40000003 ∷ 0x40000003 ∷ 0x40000001 ∷ 0x50000003 ∷ 0x60020000 ∷ 0xA0000000 ∷ 0x50000001 ∷ 0x60020000
    ∷ 0xA0000001 ∷ 0x50000001 ∷ 0x60000002 ∷ 0x70000001 ∷ 0x50000001 ∷ 0x60000002 ∷ 0x70000002 ∷ 0x50000001 ∷ 0x60020000 ∷ 0xA0000001 ∷ 0x50000001
    ∷ 0x60000002 ∷ 0x70000003 ∷ 0x50000001 ∷ 0x60000002 ∷ 0x70000004 ∷ 0x60020000 ∷ 0xA0000001 ∷ 0x50000001 ∷ 0x60000002 ∷ 0xD0000000 ∷ 0xA0000002
    ∷ 0x7000000A ∷ 0x50000000 ∷ 0x60040000 ∷ 0xA0000002 ∷ []

abbrev pub pairs_compiled : List ℕ
pairs_compiled =
    0x10010001 ∷ 0x30000205 ∷ 0x40000001 ∷ 0x40000003 ∷ 0x40000003 ∷ 0x40000001 ∷ 0x40000003 ∷ 0x40000003 ∷ 0x40000003 ∷ 0x40000003 ∷ 0x5000000E
    ∷ 0x60000003 ∷ 0xA0000000 ∷ 0x60000004 ∷ 0xC0000000 ∷ 0xA0000003 ∷ 0x60000005 ∷ 0xD000000D ∷ 0xA0000003 ∷ 0xA0000001 ∷ 0x60000006 ∷ 0xD000000D
    ∷ 0xA0000003 ∷ 0xC0000000 ∷ 0xA0000005 ∷ 0x60000002 ∷ 0xE0000000 ∷ 0xA0000005 ∷ 0x70000001 ∷ 0xA0000002 ∷ 0x60000002 ∷ 0xE0000000 ∷ 0xA0000006
    ∷ 0x70000002 ∷ 0xA0000002 ∷ 0x60000005 ∷ 0xD000000D ∷ 0xA0000004 ∷ 0xA0000001 ∷ 0x60000006 ∷ 0xD000000D ∷ 0xA0000004 ∷ 0xC0000000 ∷ 0xA0000005
    ∷ 0x60000002 ∷ 0xE0000000 ∷ 0xA0000005 ∷ 0x70000003 ∷ 0xA0000002 ∷ 0x60000002 ∷ 0xE0000000 ∷ 0xA0000006 ∷ 0x70000004 ∷ 0xA0000002 ∷ 0x60000003
    ∷ 0xA0000001 ∷ 0x60000004 ∷ 0xC0000000 ∷ 0xA0000003 ∷ 0x60000002 ∷ 0xE0000000 ∷ 0xA0000003 ∷ 0xD0000000 ∷ 0xA0000002 ∷ 0x7000000A ∷ 0xA0000002
    ∷ 0x60040000 ∷ 0xA0000002 ∷ []

-- A public if, and a for, between two levels: both inner ifs have the second pair.
abbrev pub between : List ℕ
between =
    0x10000001 ∷ 0x30000302 ∷ 0x40000001 ∷ 0x40000003 ∷ 0x40000002 ∷ 0x40000003 ∷ 0x40000001 ∷ 0x40000000 ∷ 0x50000002 ∷ 0x60020000 ∷ 0xA0000000
    ∷ 0x50000001 ∷ 0x60020000 ∷ 0xA0000001 ∷ 0x50000001 ∷ 0x60020000 ∷ 0xA0000002 ∷ 0x50000001 ∷ 0x60000003 ∷ 0x70000001 ∷ 0x50000000 ∷ 0x50000001
    ∷ 0x60030004 ∷ 0x70000000 ∷ 0x70000002 ∷ 0x50000001 ∷ 0x60020000 ∷ 0xA0000002 ∷ 0x50000001 ∷ 0x60000003 ∷ 0xD0000000 ∷ 0xA0000003 ∷ 0x70000001
    ∷ 0x50000000 ∷ 0x50000001 ∷ 0x60000003 ∷ 0x70000009 ∷ 0x60040000 ∷ 0xA0000003 ∷ []

abbrev pub between_compiled : List ℕ
between_compiled =
    0x10010001 ∷ 0x30000306 ∷ 0x40000001 ∷ 0x40000003 ∷ 0x40000002 ∷ 0x40000003 ∷ 0x40000001 ∷ 0x40000000 ∷ 0x40000003 ∷ 0x40000003 ∷ 0x40000003
    ∷ 0x40000003 ∷ 0x50000005 ∷ 0x60000005 ∷ 0xA0000000 ∷ 0x60000006 ∷ 0xC0000000 ∷ 0xA0000005 ∷ 0x60020000 ∷ 0xA0000001 ∷ 0x50000003 ∷ 0x60000007
    ∷ 0xD000000D ∷ 0xA0000005 ∷ 0xA0000002 ∷ 0x60000008 ∷ 0xD000000D ∷ 0xA0000005 ∷ 0xC0000000 ∷ 0xA0000007 ∷ 0x60000003 ∷ 0xE0000000 ∷ 0xA0000007
    ∷ 0x70000001 ∷ 0xA0000003 ∷ 0x50000001 ∷ 0x60030004 ∷ 0x70000000 ∷ 0x70000002 ∷ 0x50000003 ∷ 0x60000007 ∷ 0xD000000D ∷ 0xA0000005 ∷ 0xA0000002
    ∷ 0x60000008 ∷ 0xD000000D ∷ 0xA0000005 ∷ 0xC0000000 ∷ 0xA0000007 ∷ 0x60000003 ∷ 0xE0000000 ∷ 0xA0000007 ∷ 0xD0000000 ∷ 0xA0000003 ∷ 0x70000001
    ∷ 0xA0000003 ∷ 0x60000003 ∷ 0xE0000000 ∷ 0xA0000006 ∷ 0x70000009 ∷ 0xA0000003 ∷ 0x60040000 ∷ 0xA0000003 ∷ []

-- Calls in secret contexts, one with a boolean result before two with a word: the word temporary stands before the boolean one.
abbrev pub temporaries : List ℕ
temporaries =
    0x10000003 ∷ 0x30010100 ∷ 0x40000001 ∷ 0x40000001 ∷ 0x50000001 ∷ 0x60040000 ∷ 0xD0000000 ∷ 0xA0000000 ∷ 0x70000001 ∷ 0x30010000 ∷ 0x40000003
    ∷ 0x50000001 ∷ 0x60040000 ∷ 0x90000001 ∷ 0x30000102 ∷ 0x40000001 ∷ 0x40000003 ∷ 0x40000001 ∷ 0x40000003 ∷ 0x50000003 ∷ 0x60020000 ∷ 0xA0000000
    ∷ 0x50000002 ∷ 0x60050102 ∷ 0x60050001 ∷ 0x70000005 ∷ 0x50000000 ∷ 0x60050001 ∷ 0x70000007 ∷ 0x60040000 ∷ 0xA0000001 ∷ []

abbrev pub temporaries_compiled : List ℕ
temporaries_compiled =
    0x10010003 ∷ 0x30000202 ∷ 0x40000001 ∷ 0x40000001 ∷ 0x40000003 ∷ 0x40000001 ∷ 0x40000003 ∷ 0x50000004 ∷ 0x60000003 ∷ 0x90000001 ∷ 0x60000002
    ∷ 0xE0000000 ∷ 0xA0000001 ∷ 0xD0000000 ∷ 0xA0000000 ∷ 0x70000001 ∷ 0xA0000002 ∷ 0x60000003 ∷ 0xE0000000 ∷ 0xA0000001 ∷ 0x90000000 ∷ 0xA0000003
    ∷ 0x60040000 ∷ 0xA0000002 ∷ 0x30000102 ∷ 0x40000003 ∷ 0x40000003 ∷ 0x40000003 ∷ 0x40000003 ∷ 0x50000004 ∷ 0x60000002 ∷ 0x90000001 ∷ 0x60000001
    ∷ 0xE0000000 ∷ 0xA0000000 ∷ 0x90000001 ∷ 0xA0000001 ∷ 0x60000002 ∷ 0xE0000000 ∷ 0xA0000000 ∷ 0x90000000 ∷ 0xA0000002 ∷ 0x60040000 ∷ 0xA0000001
    ∷ 0x30000106 ∷ 0x40000001 ∷ 0x40000003 ∷ 0x40000001 ∷ 0x40000003 ∷ 0x40000003 ∷ 0x40000003 ∷ 0x40000001 ∷ 0x40000003 ∷ 0x50000008 ∷ 0x60000003
    ∷ 0xA0000000 ∷ 0x60000004 ∷ 0xC0000000 ∷ 0xA0000003 ∷ 0x60050106 ∷ 0xA0000003 ∷ 0x60000002 ∷ 0xE0000000 ∷ 0xA0000003 ∷ 0xA0000006 ∷ 0xA0000002
    ∷ 0x60050005 ∷ 0x70000005 ∷ 0xA0000003 ∷ 0x60000001 ∷ 0xE0000000 ∷ 0xA0000003 ∷ 0xA0000005 ∷ 0xA0000001 ∷ 0x60050001 ∷ 0x70000007 ∷ 0x90000001
    ∷ 0x60040000 ∷ 0xA0000001 ∷ []

-- RV and LIVE, two pairs and both temporaries.
abbrev pub every_new_local : List ℕ
every_new_local =
    0x10000003 ∷ 0x30010100 ∷ 0x40000001 ∷ 0x40000001 ∷ 0x50000001 ∷ 0x60040000 ∷ 0xD0000000 ∷ 0xA0000000 ∷ 0x70000001 ∷ 0x30010000 ∷ 0x40000003
    ∷ 0x50000001 ∷ 0x60040000 ∷ 0x90000001 ∷ 0x30000102 ∷ 0x40000001 ∷ 0x40000003 ∷ 0x40000001 ∷ 0x40000003 ∷ 0x50000003 ∷ 0x60020000 ∷ 0xA0000000
    ∷ 0x50000002 ∷ 0x60050102 ∷ 0x60020000 ∷ 0xA0000002 ∷ 0x50000001 ∷ 0x60040000 ∷ 0x70000005 ∷ 0x50000001 ∷ 0x60050001 ∷ 0x70000006 ∷ 0x50000001
    ∷ 0x60020000 ∷ 0xA0000002 ∷ 0x50000000 ∷ 0x50000001 ∷ 0x60040000 ∷ 0x70000007 ∷ 0x60050001 ∷ 0x70000008 ∷ 0x60040000 ∷ 0xA0000001 ∷ []

abbrev pub every_new_local_compiled : List ℕ
every_new_local_compiled =
    0x10010003 ∷ 0x30000202 ∷ 0x40000001 ∷ 0x40000001 ∷ 0x40000003 ∷ 0x40000001 ∷ 0x40000003 ∷ 0x50000004 ∷ 0x60000003 ∷ 0x90000001 ∷ 0x60000002
    ∷ 0xE0000000 ∷ 0xA0000001 ∷ 0xD0000000 ∷ 0xA0000000 ∷ 0x70000001 ∷ 0xA0000002 ∷ 0x60000003 ∷ 0xE0000000 ∷ 0xA0000001 ∷ 0x90000000 ∷ 0xA0000003
    ∷ 0x60040000 ∷ 0xA0000002 ∷ 0x30000102 ∷ 0x40000003 ∷ 0x40000003 ∷ 0x40000003 ∷ 0x40000003 ∷ 0x50000004 ∷ 0x60000002 ∷ 0x90000001 ∷ 0x60000001
    ∷ 0xE0000000 ∷ 0xA0000000 ∷ 0x90000001 ∷ 0xA0000001 ∷ 0x60000002 ∷ 0xE0000000 ∷ 0xA0000000 ∷ 0x90000000 ∷ 0xA0000002 ∷ 0x60040000 ∷ 0xA0000001
    ∷ 0x3000010A ∷ 0x40000001 ∷ 0x40000003 ∷ 0x40000001 ∷ 0x40000003 ∷ 0x40000001 ∷ 0x40000003 ∷ 0x40000003 ∷ 0x40000003 ∷ 0x40000003 ∷ 0x40000003
    ∷ 0x40000001 ∷ 0x40000003 ∷ 0x50000014 ∷ 0x60000004 ∷ 0x90000001 ∷ 0x60000005 ∷ 0xA0000000 ∷ 0x60000006 ∷ 0xC0000000 ∷ 0xA0000005 ∷ 0x6005010A
    ∷ 0xA0000005 ∷ 0x60000002 ∷ 0xE0000000 ∷ 0xA0000005 ∷ 0xA000000A ∷ 0xA0000002 ∷ 0x60000007 ∷ 0xD000000D ∷ 0xA0000005 ∷ 0xA0000002 ∷ 0x60000008
    ∷ 0xD000000D ∷ 0xA0000005 ∷ 0xC0000000 ∷ 0xA0000007 ∷ 0x60000003 ∷ 0xE0000000 ∷ 0xA0000007 ∷ 0x70000005 ∷ 0xA0000003 ∷ 0x60000004 ∷ 0xE0000000
    ∷ 0xA0000007 ∷ 0x90000000 ∷ 0xA0000004 ∷ 0x60050009 ∷ 0x70000006 ∷ 0xA0000008 ∷ 0x60000001 ∷ 0xE0000000 ∷ 0xA0000008 ∷ 0xA0000009 ∷ 0xA0000001
    ∷ 0x60000007 ∷ 0xD000000D ∷ 0xA0000006 ∷ 0xA0000002 ∷ 0x60000008 ∷ 0xD000000D ∷ 0xA0000006 ∷ 0xC0000000 ∷ 0xA0000007 ∷ 0x60000003 ∷ 0xE0000000
    ∷ 0xA0000008 ∷ 0x70000007 ∷ 0xA0000003 ∷ 0x60000004 ∷ 0xE0000000 ∷ 0xA0000008 ∷ 0x90000000 ∷ 0xA0000004 ∷ 0x60050009 ∷ 0x70000008 ∷ 0xA0000004
    ∷ 0x60000001 ∷ 0xE0000000 ∷ 0xA0000004 ∷ 0xA0000009 ∷ 0xA0000001 ∷ 0x60000003 ∷ 0xE0000000 ∷ 0xA0000004 ∷ 0xA0000001 ∷ 0xA0000003 ∷ 0x60000004
    ∷ 0xE0000000 ∷ 0xA0000004 ∷ 0x90000000 ∷ 0xA0000004 ∷ 0x60040000 ∷ 0xA0000003 ∷ []

-- an image, and what it is compiled to
abbrev pub CompiledTo : List ℕ → List ℕ → Type 0
CompiledTo image words = ◌≡◌ {A = Compiled × List ℕ} (compiled true image (replicate (length words) 0)) (Written (length words), words)

pub numbered_so : CompiledTo pairs pairs_compiled × CompiledTo between between_compiled × CompiledTo temporaries temporaries_compiled
    × CompiledTo every_new_local every_new_local_compiled
unfolding header_word array_word procedure_word type_word block_word statement_word expression_word raw_word place_of read_expression read_arguments read_statements read_statement read_types read_procedure read_procedures read_arrays read_rest read_image least sort_in mark_statement sort_faults argument_faults statement_sort_faults procedure_sort_faults procedures_sort_faults image_sort_faults secret_in rc_after is_constant constant_value bounded_sum bounded_index label_faults argument_label_faults statement_label_faults procedure_label_faults procedures_label_faults image_label_faults fault_of without_fault admitted verdict checked flat_map expression_words argument_words statement_count statement_words block_words procedure_words procedures_words image_words moved moved_all act masked under followed_by statement_nesting statement_needs compiled_if compiled_return compiled_call compiled_statement closed compiled_types compiled_body compiled_procedure compiled_procedures compiled_image fit_locals written compiled_tree compiled
numbered_so = (refl, refl, refl, refl)

-- "The example keeps its words": the former compiler wrote those that `starred_hold` (Cases) has.
pub example_keeps_its_words : ◌≡◌ {A = Compiled × List ℕ} (former_compiled true example (replicate (length compiled_example) 0))
    (Written (length compiled_example), compiled_example)
unfolding header_word array_word procedure_word type_word block_word statement_word expression_word raw_word place_of read_expression read_arguments read_statements read_statement read_types read_procedure read_procedures read_arrays read_rest read_image least sort_in mark_statement sort_faults argument_faults statement_sort_faults procedure_sort_faults procedures_sort_faults image_sort_faults secret_in rc_after is_constant constant_value bounded_sum bounded_index label_faults argument_label_faults statement_label_faults procedure_label_faults procedures_label_faults image_label_faults fault_of without_fault admitted verdict checked flat_map expression_words argument_words statement_count statement_words block_words procedure_words procedures_words image_words moved moved_all act masked under followed_by compiled_return compiled_call closed fit_locals written former_temporaries former_if former_statement former_types former_body former_procedure former_image former_tree former_compiled
example_keeps_its_words = refl
