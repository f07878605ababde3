use Rattle.cert_checker.proofs.LeafOrder.{among_told}
use Rattle.cert_checker.proofs.order.is_among.Goals as goal

pub returns : goal.returns
returns c = among_told c.args.columns.now c.args.attr c.place_of.result c.place_of.ensures.value
