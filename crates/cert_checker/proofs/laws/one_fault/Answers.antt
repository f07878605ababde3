use Rattle.cert_checker.proofs.FirstFaults.{one_first_fault}
use Rattle.cert_checker.proofs.laws.one_fault.Goals as goal

pub returns : goal.returns
returns c = one_first_fault
