use Rattle.cert_checker.proofs.Choosing.{chosen_is_first}
use Rattle.cert_checker.proofs.breaking.first_break.Goals as goal

pub returns : goal.returns
returns c = chosen_is_first c.args.leaf.now.query.now c.args.leaf.now.signs.now c.first_selected-first.result c.first_attr-second.result c.first_attr-third.result _ c.first_selected-first.ensures c.first_attr-second.ensures c.first_attr-third.ensures c.first_of_three.ensures
