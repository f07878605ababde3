use Rattle.std.proofs.Common.{◌≡◌, length, arith, ap}
use Rattle.plan_closure.specs.BoundsValue.{BoundsValue}
use Rattle.plan_closure.proofs.Upper.{bounds_with}
use Rattle.plan_closure.proofs.bounds.Bounds.add.Goals as goal

pub invariant_of-self : goal.invariant_of-self
invariant_of-self c =
    let f : c.self.inside.constraints.items ≡ c.args.self.now.constraints = ap (λ (v : BoundsValue). v.constraints) c.self.view_is in
    let g : length c.self.inside.constraints.items ≡ length c.args.self.now.constraints = ap length f in
    bounds_with _ _ _ c.args.c _ c.push.ensures.items (c.add.ensures _ _ c.self.invariant.closure) (omega (arith, c.requires.few))
