use Rattle.cert_checker.proofs.LeafRefs.{two_told}
use Rattle.cert_checker.proofs.links.has_two_refs.Goals as goal

pub returns : goal.returns
returns c = two_told c.args.leaf.now.query.now c.args.leaf.now.signs.now c.args.side c.args.attr c.some_second.result c.requires.reference c.some_second.ensures.0 c.some_second.ensures.1
