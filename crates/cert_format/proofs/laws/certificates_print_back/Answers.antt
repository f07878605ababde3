use Rattle.cert_format.proofs.PrintedLines.{certificate_back}
use Rattle.cert_format.proofs.laws.certificates_print_back.Goals as goal

pub returns : goal.returns
returns c = certificate_back
