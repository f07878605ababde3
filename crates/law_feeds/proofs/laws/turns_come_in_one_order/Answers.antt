use Rattle.law_feeds.proofs.OneOrder.{turns_come_in_one_order}
use Rattle.law_feeds.proofs.laws.turns_come_in_one_order.Goals as goal

pub returns : goal.returns
returns c = turns_come_in_one_order
