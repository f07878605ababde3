use Rattle.adv_key_ranges.proofs.Verdicts.{accepted-by}
use Rattle.adv_key_ranges.proofs.accepting.is_accepted.Goals as goal

pub returns-in-Ok : goal.returns-in-Ok
returns-in-Ok c = accepted-by c.args.shared c.args.query.now c.in-Ok.judgement c.has_numbers.result c.from-from.ensures.limits c.in-Ok.ensures c.has_numbers.ensures
