use Rattle.adv_key_ranges.proofs.Verdicts.{limit-by}
use Rattle.adv_key_ranges.proofs.accepting.limit_of.Goals as goal

pub returns-in-Ok : goal.returns-in-Ok
returns-in-Ok c = limit-by c.args.shared c.args.query.now c.in-Ok.judgement c.limit_in.result c.in-Ok.ensures c.limit_in.ensures
