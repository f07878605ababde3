use Rattle.cert_checker.proofs.LeavesInOrder as order
use Rattle.cert_checker.proofs.laws.whole_leaves_are_parts.Goals as goal

pub returns : goal.returns
returns c = order.whole_leaves
