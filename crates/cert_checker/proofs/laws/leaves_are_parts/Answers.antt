use Rattle.cert_checker.proofs.LeavesInOrder as order
use Rattle.cert_checker.proofs.laws.leaves_are_parts.Goals as goal

pub returns : goal.returns
returns c = order.leaves_are_parts
