-- The text of each answer.
use Rattle.printing.proofs.AnswerRules.{refused_text, written_text}
use Rattle.printing.proofs.put_answer.Goals as goal

pub returns-in-Refused : goal.returns-in-Refused
returns-in-Refused c = refused_text _ c.args.out.now _ _ _ _ c.in-Refused.is c.args.text.now c.put_refusal.ensures

pub returns-in-Written : goal.returns-in-Written
returns-in-Written c = written_text _ c.args.out.now _ _ _ c.in-Written.is c.args.text.now c.put_listing.ensures
