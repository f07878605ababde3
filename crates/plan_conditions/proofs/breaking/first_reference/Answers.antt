use Rattle.std.proofs.Common.{List, subst}
use Rattle.sem_query.specs.declared.atom.Attr.{Attr}
use Rattle.sem_query.specs.declared.condition.Condition.TheVariants.{C3}
use Rattle.sem_query.specs.Query.{attrs_of}
use Rattle.sem_query.specs.Violation.{Breaks}
use Rattle.sem_query.specs.FirstBreak.{IsFirstAmong}
use Rattle.sem_query.proofs.FirstColumns.{first_of_all}
use Rattle.sem_query.proofs.FirstBreaks.{named_as_reference}
use Rattle.plan_conditions.proofs.breaking.first_reference.Goals as goal

pub returns : goal.returns
returns c = first_of_all (Breaks c.args.q.now c.args.p.now.signs.items C3) (attrs_of c.args.q.now.atoms) c.first_among.result (named_as_reference c.args.q.now c.args.p.now.signs.items) (subst (λ (z : List Attr). IsFirstAmong (Breaks c.args.q.now c.args.p.now.signs.items C3) z c.first_among.result) c.attrs.ensures.value c.first_among.ensures)
