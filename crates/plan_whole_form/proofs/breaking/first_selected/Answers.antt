use Rattle.std.proofs.Common.{◌∙◌, List, map, subst}
use Rattle.sem_query.specs.declared.atom.Attr.{Attr}
use Rattle.sem_query.specs.declared.condition.Condition.TheVariants.{C1}
use Rattle.sem_query.specs.FirstBreak.{IsFirstAmong}
use Rattle.sem_query.proofs.FirstColumns.{first_of_all}
use Rattle.sem_whole.specs.Whole.{WholeBreaks}
use Rattle.plan_whole.specs.Columns.{atom_of}
use Rattle.plan_whole_form.proofs.breaking.first_selected.Goals as goal

pub returns : goal.returns
returns c = first_of_all (WholeBreaks c.args.closed.now (map atom_of c.args.links.now) C1) c.args.closed.now.select c.first_among.result (λ a b. b.0) (subst (λ (z : List Attr). IsFirstAmong (WholeBreaks c.args.closed.now (map atom_of c.args.links.now) C1) z c.first_among.result) (c.select.ensures.value ∙ c.query.ensures.select) c.first_among.ensures)
