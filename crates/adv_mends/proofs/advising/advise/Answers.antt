use Rattle.adv_mends.proofs.Breaking.{shows}
use Rattle.adv_mends.proofs.Dear.{keeps-few, keeps-met}
use Rattle.adv_mends.proofs.advising.advise.Goals as goal

pub chains_for-requires : goal.chains_for-requires
chains_for-requires c = shows c.args.shared c.args.query.now c.in_ok-judgement.judgement c.in_ok-judgement.ensures

pub dearest_for-requires-clause-few : goal.dearest_for-requires-clause-few
dearest_for-requires-clause-few c = keeps-few c.args.shared c.args.query.now c.in_ok-judgement.judgement c.in_ok-judgement.ensures

pub dearest_for-requires-clause-meets : goal.dearest_for-requires-clause-meets
dearest_for-requires-clause-meets c = keeps-met c.args.shared c.args.query.now c.in_ok-judgement.judgement c.in_ok-judgement.ensures
