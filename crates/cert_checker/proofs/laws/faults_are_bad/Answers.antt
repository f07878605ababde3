use Rattle.cert_checker.proofs.FirstFaults.{good_or_fault}
use Rattle.cert_checker.proofs.laws.faults_are_bad.Goals as goal

pub returns : goal.returns
returns c = λ q nodes place why fault good. good_or_fault q nodes place why good fault
