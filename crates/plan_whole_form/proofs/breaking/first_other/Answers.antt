use Rattle.std.proofs.Common.{◌∙◌, List, map, subst}
use Rattle.sem_query.specs.declared.atom.Attr.{Attr}
use Rattle.sem_query.specs.declared.condition.Condition.TheVariants.{C3}
use Rattle.sem_query.specs.FirstBreak.{IsFirstAmong}
use Rattle.sem_query.specs.Query.{attrs_of}
use Rattle.sem_query.proofs.FirstColumns.{first_of_all}
use Rattle.sem_whole.specs.Whole.{WholeBreaks}
use Rattle.plan_whole.specs.Columns.{atom_of}
use Rattle.plan_whole_form.proofs.Breaks.{named_third}
use Rattle.plan_whole_form.proofs.breaking.first_other.Goals as goal

pub returns : goal.returns
returns c = first_of_all (WholeBreaks c.args.closed.now (map atom_of c.args.links.now) C3) (attrs_of c.args.closed.now.atoms) c.first_among.result (named_third c.args.closed.now (map atom_of c.args.links.now) c.requires) (subst (λ (z : List Attr). IsFirstAmong (WholeBreaks c.args.closed.now (map atom_of c.args.links.now) C3) z c.first_among.result) (c.attrs.ensures.value ∙ c.query.ensures.attrs) c.first_among.ensures)
