-- The two numbers, with what stands behind each.
use Rattle.printing.proofs.AnswerRules.{refusal_is}
use Rattle.printing.proofs.put_refusal.Goals as goal

pub returns : goal.returns
returns c =
    rw (← c.from.ensures) (refusal_is _ _ _ _ c.args.text.now c.put_number-a.new.text c.put_number-b.new.text c.requires c.put_number-a.auto.text c.put_number-b.auto.text
    c.put_number-a.ensures c.put_number-b.ensures)
