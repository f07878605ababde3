use Rattle.std.proofs.Common.{List, subst}
use Rattle.sem_query.specs.declared.atom.Attr.{Attr}
use Rattle.sem_query.specs.declared.condition.Condition.TheVariants.{C1}
use Rattle.sem_query.specs.Violation.{Breaks}
use Rattle.sem_query.specs.FirstBreak.{IsFirstAmong}
use Rattle.sem_query.proofs.FirstColumns.{first_of_all}
use Rattle.sem_query.proofs.FirstBreaks.{selected}
use Rattle.plan_conditions.proofs.breaking.first_unbounded_selected.Goals as goal

pub returns : goal.returns
returns c = first_of_all (Breaks c.args.q.now c.args.p.now.signs.items C1) c.args.q.now.select c.first_among.result (selected c.args.q.now c.args.p.now.signs.items) (subst (λ (z : List Attr). IsFirstAmong (Breaks c.args.q.now c.args.p.now.signs.items C1) z c.first_among.result) c.select.ensures.value c.first_among.ensures)
