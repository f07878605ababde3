use Rattle.plan_conditions.proofs.Told.{one_class_told}
use Rattle.plan_conditions.proofs.bounded.are_one_class.Goals as goal

pub returns : goal.returns
returns c = one_class_told c.args.q.now c.args.p.now.signs.items c.args.a c.args.b _ _ c.class_of.ensures c.class_of-2.ensures
