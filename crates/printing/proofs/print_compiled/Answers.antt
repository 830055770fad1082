-- The image is compiled into as many words as any form admits.
use Rattle.std.proofs.Common.{rules, ℕ}
use Rattle.std.proofs.lemmas.List.{length-replicate}
use Rattle.printing.proofs.AnswerRules.{answer_asks, printed_is}
use Rattle.printing.proofs.print_compiled.Goals as goal

pub put_answer-requires : goal.put_answer-requires
put_answer-requires c =
    answer_asks c.args.image.now _ _ c.compile_bytes-answer.ensures c.args.text.now (length-replicate {A = ℕ} 65536 0) c.compile_bytes-answer.auto.out
    (search rules)

pub returns-clause-text_after : goal.returns-clause-text_after
returns-clause-text_after c = (printed_is c.args.image.now _ _ c.compile_bytes-answer.ensures _ _ c.args.text.now c.put_answer.ensures).1
