use Rattle.cert_format.specs.Text.{words}
use Rattle.cert_format.proofs.PrintedLines.{line_whole}
use Rattle.cert_format.proofs.laws.lines_are_whole.Goals as goal

pub returns : goal.returns
returns c = λ text. line_whole (words text)
