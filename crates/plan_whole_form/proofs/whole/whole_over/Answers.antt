use Rattle.std.proofs.Common.{map, sym, subst}
use Rattle.sem_whole.specs.Links.{AreLinks}
use Rattle.plan_whole.specs.Columns.{atom_of}
use Rattle.plan_whole_form.proofs.Assembling.{broken_is}
use Rattle.plan_whole_form.proofs.whole.whole_over.Goals as goal

pub returns-in-Some : goal.returns-in-Some
returns-in-Some c =
    broken_is c.args.closed.now c.query-query.ensures.solvable (map atom_of c.as_slice.result.now) (subst (λ z. AreLinks c.args.closed.now (map atom_of z)) (sym c.as_slice.ensures.value) c.keeps_of-keeps.ensures.links) c.in-Some.found c.first_break.result c.in-Some.is c.first_break.ensures
