use Rattle.std.proofs.Common.{subst}
use Rattle.sem_query.specs.Verdict.{IsDecision}
use Rattle.fam_fooling_sets.proofs.lowering.family_over.Goals as goal

pub part_at-p-requires-clause-decision : goal.part_at-p-requires-clause-decision
part_at-p-requires-clause-decision c = subst (IsDecision c.args.q.now) c.in-Violation.is c.requires.decision
