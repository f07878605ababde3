use Rattle.std.proofs.Common.{subst, sym, ◌∙◌}
use Rattle.sem_query.specs.Verdict.{IsDecision}
use Rattle.adv_mends.proofs.FewParts.{meets_by, not_met}
use Rattle.adv_mends.proofs.Never.{some_many}
use Rattle.adv_mends.proofs.meeting.parts_met.Goals as goal

pub returns-in-Bounded : goal.returns-in-Bounded
returns-in-Bounded c = (
  meets_by c.args.query.now c.in-Ok.parts.items (sym c.compact.ensures ∙ c.if-compact.false) c.in-Ok.ensures.parts c.in-Ok.ensures.few (subst (IsDecision c.args.query.now) c.in-Bounded.is c.decide.ensures),
  some_many c.args.query.now c.in-Ok.parts.items c.len.result (c.len.ensures ∙ c.in-Ok.parts.ok.0) c.in-Ok.ensures.parts,
)

pub returns-in-Ok : goal.returns-in-Ok
returns-in-Ok c = λ m. not_met c.args.query.now c.decide.result (sym c.compact.ensures ∙ c.if-compact.false) c.decide.ensures (λ e. let f = c.in-Violation.is in absurd cc) m
