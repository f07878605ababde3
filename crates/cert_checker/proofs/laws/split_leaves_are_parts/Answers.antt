use Rattle.cert_checker.proofs.LeavesInOrder as order
use Rattle.cert_checker.proofs.laws.split_leaves_are_parts.Goals as goal

pub returns : goal.returns
returns c = order.split_leaves
