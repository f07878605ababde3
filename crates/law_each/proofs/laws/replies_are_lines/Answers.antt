use Rattle.law_each.proofs.RepliesAreLines.{replies_are_lines}
use Rattle.law_each.proofs.laws.replies_are_lines.Goals as goal

pub returns : goal.returns
returns c = replies_are_lines
