-- Document 02, wish 2: indices in a secret context, as one table with one theorem over the whole of it, proved by computing. Assumes nothing.
use Rattle.std.specs.Prelude.{ℕ, true, ◌≡◌, refl}
use mathlib.Core.List.{List, [], ◌∷◌, ◌++◌, flat_map}
use Rattle.definitions.specs.declared.Checked.{Checked}
use Rattle.definitions.specs.declared.Checked.TheVariants.{Accepted, Refused}
use Rattle.definitions.specs.Image.{header_word, array_word, procedure_word, type_word, block_word, statement_word, expression_word}
use Rattle.definitions.specs.Image.{raw_word, place_of}
use Rattle.definitions.specs.Reading.{read_expression, read_statements, read_statement, read_types, read_procedure, read_procedures}
use Rattle.definitions.specs.Reading.{read_arrays, read_rest, read_image}
use Rattle.definitions.specs.Faults.{least}
use Rattle.definitions.specs.Sorts.{sort_in, mark_statement, sort_faults, statement_sort_faults, procedure_sort_faults}
use Rattle.definitions.specs.Sorts.{procedures_sort_faults, image_sort_faults}
use Rattle.definitions.specs.Labels.{secret_in, rc_after, is_constant, constant_value, bounded_sum, bounded_index, label_faults}
use Rattle.definitions.specs.Labels.{statement_label_faults, procedure_label_faults, procedures_label_faults, image_label_faults}
use Rattle.definitions.specs.Checking.{fault_of, without_fault, admitted, verdict, checked}

-- A guarded body over a secret array of 16 cells: for variable 0 from a constant to another, a store of 0. Its index, at place 11, is that of the case.
abbrev pub storing : ℕ → ℕ → List ℕ → List ℕ
storing from to index =
    0x10000101 ∷ 0x20010010 ∷ 0x30010001 ∷ 0x40000001 ∷ 0x40000000 ∷ 0x50000001 ∷ 0x60030000 ∷ from ∷ to ∷ 0x50000001 ∷ 0x60010000
    ∷ (index ++ (0x70000000 ∷ []))

-- the words of the for's bounds and of the index, and the checker's answer
pub record Case : Type 0 where
  pub from : ℕ
  pub to : ℕ
  pub index : List ℕ
  pub answer : Checked

abbrev case : ℕ → ℕ → List ℕ → Checked → Case
case f t i a = record { from = f; to = t; index = i; answer = a }

abbrev pub AllHold : List Case → Type 0
AllHold [] = Unit {0}
AllHold (c ∷ cs) = (checked true (storing c.from c.to c.index) ≡ c.answer) × AllHold cs

abbrev pub indices : List Case
indices =
    -- from 0 to 15: plus 1 is below 16, in either order; plus 2 is not; operator 1 is no sum
    case 0x70000000 0x7000000F (0xD0000000 ∷ 0xA0000000 ∷ 0x70000001 ∷ []) Accepted
    ∷ case 0x70000000 0x7000000F (0xD0000000 ∷ 0x70000001 ∷ 0xA0000000 ∷ []) Accepted
    ∷ case 0x70000000 0x7000000F (0xD0000000 ∷ 0xA0000000 ∷ 0x70000002 ∷ []) (Refused 11 11)
    ∷ case 0x70000000 0x7000000F (0xD0000001 ∷ 0xA0000000 ∷ 0x70000001 ∷ []) (Refused 11 11)
    -- from 1 to 2: plus FFFFFFFF wraps to 0
    ∷ case 0x70000001 0x70000002 (0xD0000000 ∷ 0xA0000000 ∷ 0x80000000 ∷ 0xFFFFFFFF ∷ []) (Refused 11 11)
    ∷ case 0x70000001 0x70000002 (0xD0000000 ∷ 0x80000000 ∷ 0xFFFFFFFF ∷ 0xA0000000 ∷ []) (Refused 11 11)
    -- from 20 to 17, without a pass: plus any constant, and not the variable alone
    ∷ case 0x70000014 0x70000011 (0xD0000000 ∷ 0xA0000000 ∷ 0x70000000 ∷ []) Accepted
    ∷ case 0x70000014 0x70000011 (0xD0000000 ∷ 0x80000000 ∷ 0xFFFFFFFF ∷ 0xA0000000 ∷ []) Accepted
    ∷ case 0x70000014 0x70000011 (0xA0000000 ∷ []) (Refused 11 11)
    -- nothing nested
    ∷ case 0x70000000 0x70000002 (0xD0000000 ∷ 0xA0000000 ∷ 0xD0000000 ∷ 0x70000000 ∷ 0x70000001 ∷ []) (Refused 11 11)
    ∷ []

-- Every case of the table holds.
pub indexed_so : AllHold indices
unfolding header_word array_word procedure_word type_word block_word statement_word expression_word raw_word place_of read_expression read_statements read_statement read_types read_procedure read_procedures read_arrays read_rest read_image least sort_in mark_statement sort_faults statement_sort_faults procedure_sort_faults procedures_sort_faults image_sort_faults secret_in rc_after is_constant constant_value bounded_sum bounded_index label_faults statement_label_faults procedure_label_faults procedures_label_faults image_label_faults fault_of without_fault admitted verdict checked flat_map
indexed_so = (refl, (refl, (refl, (refl, (refl, (refl, (refl, (refl, (refl, (refl, tt))))))))))
