use Rattle.std.proofs.Common.{◌↔◌, IsTrue, map, sym, subst}
use Rattle.sem_whole.specs.Whole.{WholeBreaks}
use Rattle.plan_whole.specs.Columns.{atom_of}
use Rattle.plan_whole_form.proofs.breaking.breaks.Goals as goal

pub returns-in-C1 : goal.returns-in-C1
returns-in-C1 c = subst (λ d. IsTrue c.breaks_first.result ↔ WholeBreaks c.args.closed.now (map atom_of c.args.links.now) d c.args.a) (sym c.in-C1.is) c.breaks_first.ensures

pub returns-in-C2 : goal.returns-in-C2
returns-in-C2 c = subst (λ d. IsTrue c.breaks_second.result ↔ WholeBreaks c.args.closed.now (map atom_of c.args.links.now) d c.args.a) (sym c.in-C2.is) c.breaks_second.ensures

pub returns-in-C3 : goal.returns-in-C3
returns-in-C3 c = subst (λ d. IsTrue c.breaks_third.result ↔ WholeBreaks c.args.closed.now (map atom_of c.args.links.now) d c.args.a) (sym c.in-C3.is) c.breaks_third.ensures
