use Rattle.cert_format.specs.Text.{words}
use Rattle.cert_format.proofs.Spelled.{one_line}
use Rattle.cert_format.proofs.laws.one_line.Goals as goal

pub returns : goal.returns
returns c = λ text. one_line (words text)
