use Rattle.std.proofs.Common.{◌↔◌, IsTrue, subst, w64}
use Rattle.std.proofs.lemmas.Int.{to_z-of_z}
use Rattle.sem_query.specs.declared.atom.Element.TheVariants as element
use Rattle.sem_whole.specs.System.{system}
use Rattle.plan_whole.specs.Closed.{IsMet}
use Rattle.plan_whole.proofs.Told.{met_bound}
use Rattle.plan_whole.proofs.closed.ClosedSystem.keeps.Goals as goal

pub returns : goal.returns
returns c =
    met_bound (system c.args.self.now) (element.Attr c.args.a) (element.Attr c.args.b) c.above.result c.args.by c.is_met.result c.above.ensures.bound
    (subst (λ z. IsTrue c.is_met.result ↔ IsMet c.above.result z) (to_z-of_z w64 c.args.by c.ranges.by) c.is_met.ensures)
