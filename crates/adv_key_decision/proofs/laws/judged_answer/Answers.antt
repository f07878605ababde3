use Rattle.adv_key_decision.proofs.Followed.{judged-answer}
use Rattle.adv_key_decision.proofs.laws.judged_answer.Goals as goal

pub returns : goal.returns
returns c = judged-answer
