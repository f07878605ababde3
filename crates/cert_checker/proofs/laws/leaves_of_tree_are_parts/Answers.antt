use Rattle.cert_checker.proofs.Preorders as preorders
use Rattle.cert_checker.proofs.laws.leaves_of_tree_are_parts.Goals as goal

pub returns : goal.returns
returns c = preorders.leaves_of_tree_are_parts
