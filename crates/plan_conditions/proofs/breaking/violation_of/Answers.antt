use Rattle.std.proofs.Common.{subst, sym}
use Rattle.sem_query.specs.FirstBreak.{IsFirstBreak}
use Rattle.sem_query.proofs.FirstBreaks.{first_of_firsts}
use Rattle.plan_conditions.proofs.breaking.violation_of.Goals as goal

pub returns : goal.returns
returns c = subst (IsFirstBreak c.args.q.now c.args.p.now.signs.items) (sym c.first_of_three.ensures) (first_of_firsts c.args.q.now c.args.p.now.signs.items c.first_unbounded_selected-first.result c.first_unbounded_equal-second.result c.first_reference-third.result c.first_unbounded_selected-first.ensures c.first_unbounded_equal-second.ensures c.first_reference-third.ensures)
