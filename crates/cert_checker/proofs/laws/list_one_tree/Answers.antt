use Rattle.cert_checker.proofs.Preorders as preorders
use Rattle.cert_checker.proofs.laws.list_one_tree.Goals as goal

pub returns : goal.returns
returns c = preorders.list_one_tree
