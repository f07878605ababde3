use Rattle.sem_lower_bounds.proofs.Compact.{compact-is-judged-plainly}
use Rattle.sem_lower_bounds.proofs.beyond.compact_is_judged_plainly.Goals as goal

pub returns : goal.returns
returns c = compact-is-judged-plainly
