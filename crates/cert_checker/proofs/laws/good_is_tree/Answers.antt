use Rattle.cert_checker.proofs.Preorders as preorders
use Rattle.cert_checker.proofs.laws.good_is_tree.Goals as goal

pub returns : goal.returns
returns c = preorders.good_is_tree
