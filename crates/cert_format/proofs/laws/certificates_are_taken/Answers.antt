use Rattle.cert_format.proofs.TakenBack.{line_taken}
use Rattle.cert_format.proofs.laws.certificates_are_taken.Goals as goal

pub returns : goal.returns
returns c = line_taken
