use Rattle.std.proofs.Common.{IsTrue, ◌↔◌, subst}
use Rattle.sem_query.specs.Plan.{IsWanted}
use Rattle.plan_layout.specs.ColumnPlaces.{attr_at}
use Rattle.plan_layout.proofs.Tested.{and_told}
use Rattle.plan_layout.proofs.dims.is_wanted_member.Goals as goal

pub returns-then-are_one_class : goal.returns-then-are_one_class
returns-then-are_one_class c =
    let w : IsTrue c.is_wanted.result ↔ IsWanted c.args.q.now c.args.p.now.signs.items (attr_at c.args.q.now c.args.j) = subst (λ z. IsTrue c.is_wanted.result ↔ IsWanted c.args.q.now c.args.p.now.signs.items z) c.attr_at.ensures c.is_wanted.ensures in
    and_told c.are_one_class.result c.is_wanted.result c.are_one_class.ensures.0 c.if-are_one_class.true w.0 w.1
