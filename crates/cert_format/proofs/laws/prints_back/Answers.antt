use Rattle.cert_format.proofs.PrintedLines.{line_back}
use Rattle.cert_format.proofs.laws.prints_back.Goals as goal

pub returns : goal.returns
returns c = line_back
