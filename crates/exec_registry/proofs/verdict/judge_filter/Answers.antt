use Rattle.std.proofs.Common.{arith}
use Rattle.exec_registry.proofs.Verdicts.{both}
use Rattle.exec_registry.proofs.verdict.judge_filter.Goals as goal

pub returns : goal.returns
returns c = λ shared. record { plan = c.requires; met = λ f none. absurd (both c.requires f); within = tt; few = omega arith }
