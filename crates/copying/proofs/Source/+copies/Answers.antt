-- Each return is the lemma of its kind of expression; each call copies a part that was read, a level below.
use Rattle.std.proofs.Common.{rules, refl}
use Rattle.image_words.specs.Parts.{read_binary, read_condition}
use Rattle.copying.proofs.Rules.{copy·rules, copy_alike, copy_operand, read_operand, select_values, copy_select, second_read, copy_two}
use Rattle.copying.proofs.Source.+copies.Goals as goal

pub copy_expression-returns-in-Constant : goal.copy_expression-returns-in-Constant
copy_expression-returns-in-Constant t c =
    (copy_alike _ _ _ c.requires.read _ c.of.ensures c.in-Constant.is _ _ _ _ _ _ c.copy_word.ensures.0, search rules, search rules, search rules)

pub copy_expression-returns-in-RawConstant : goal.copy_expression-returns-in-RawConstant
copy_expression-returns-in-RawConstant t c = search (copy·rules, c.in-RawConstant.ensures, rules)

pub copy_expression-returns-in-Variable : goal.copy_expression-returns-in-Variable
copy_expression-returns-in-Variable t c = search (copy·rules, c.in-Variable.ensures, rules)

pub copy_expression-returns-in-Cell : goal.copy_expression-returns-in-Cell
copy_expression-returns-in-Cell t c =
    (copy_operand _ _ _ c.requires.read _ c.of.ensures c.in-Cell.is _ _ _ _ _ _ _ _ c.put-in-Cell.ensures.0 c.copy_expression.ensures.0, search rules, search rules, search rules)

pub copy_expression-returns-in-Binary : goal.copy_expression-returns-in-Binary
copy_expression-returns-in-Binary t c = search (copy·rules, c.in-Binary.ensures, rules)

pub copy_expression-copy_expression-requires : goal.copy_expression-copy_expression-requires
copy_expression-copy_expression-requires t c =
    (search rules, read_operand _ _ _ c.requires.read _ c.of.ensures c.in-Cell.is)

pub copy_expression-copy_two-requires : goal.copy_expression-copy_two-requires
copy_expression-copy_two-requires t c =
    (search rules, read_binary _ _ _ c.requires.read _ refl c.in-Binary.ensures)

pub copy_select-copy_expression-values-requires : goal.copy_select-copy_expression-values-requires
copy_select-copy_expression-values-requires t c =
    (search rules, read_condition _ _ _ c.requires.0.read _ refl c.requires.1)

pub copy_select-copy_two-requires : goal.copy_select-copy_two-requires
copy_select-copy_two-requires t c =
    (search rules, select_values _ _ _ _ c.requires.0.read c.requires.1 _ _ _ _ _ _ _ c.put.ensures.0 c.copy_expression-values.ensures.0)

pub copy_select-returns : goal.copy_select-returns
copy_select-returns t c = search (copy_select, rules)

pub copy_two-copy_expression-requires : goal.copy_two-copy_expression-requires
copy_two-copy_expression-requires t c =
    (search rules, second_read _ _ _ _ _ _ _ _ _ c.copy_expression-second.ensures.0 c.requires.second)

pub copy_two-returns : goal.copy_two-returns
copy_two-returns t c = search (copy_two, rules)
