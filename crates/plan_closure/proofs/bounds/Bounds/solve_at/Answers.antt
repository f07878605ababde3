use Rattle.std.proofs.Common.{◌≡◌, ◌<◌, arith, ap, to_z, of_z, rules}
use Rattle.std.proofs.lemmas.Int.{to_z-of_z}
use mir.Syntax.{w128}
use Rattle.plan_closure.specs.BoundsValue.{BoundsValue}
use Rattle.plan_constraints.specs.Solutions.{IsSatisfiable}
use Rattle.plan_closure.proofs.Upper.{tight_if_satisfiable, solved_at, is_outside_below, is_outside_above, not_below, not_above}
use Rattle.plan_closure.proofs.bounds.Bounds.solve_at.Goals as goal

pub returns-then-is_below : goal.returns-then-is_below
returns-then-is_below c =
    let v : to_z w128 (of_z w128 c.args.value) ≡ c.args.value = to_z-of_z w128 c.args.value (search rules) in
    is_outside_below _ _ c.args.value _ c.lo.ensures.answer (rw v at (c.is_below.ensures.0 c.if-is_below.true))

pub returns-then-is_above : goal.returns-then-is_above
returns-then-is_above c =
    let v : to_z w128 (of_z w128 c.args.value) ≡ c.args.value = to_z-of_z w128 c.args.value (search rules) in
    is_outside_above _ _ c.args.value _ c.hi.ensures.answer (rw v at (c.is_above.ensures.0 c.if-is_above.true))

pub returns : goal.returns
returns c =
    let e : c.self.inside.closure.attrs ≡ c.args.self.now.attrs = ap (λ (v : BoundsValue). v.attrs) c.self.view_is in
    let h = c.self.invariant.closure in
    let few : c.self.inside.closure.attrs < 13 = h.few in
    let s : IsSatisfiable c.self.inside.constraints.items = rw (← c.self.view_is) at c.requires.satisfiable in
    let t = tight_if_satisfiable _ _ _ _ h.settled s in
    let v : to_z w128 (of_z w128 c.args.value) ≡ c.args.value = to_z-of_z w128 c.args.value (search rules) in
    let no_low = rw v at c.is_below.ensures.1 in
    let no_high = rw v at c.is_above.ensures.1 in
    let low = not_below _ _ c.args.value _ c.lo.ensures.answer (λ b. let y = no_low b in cc) in
    let high = not_above _ _ c.args.value _ c.hi.ensures.answer (λ b. let y = no_high b in cc) in
    rw (← c.self.view_is) (solved_at c.self.inside.closure.attrs few c.self.inside.constraints.items _ t h.modest c.args.i (omega (arith, e, c.requires.node)) c.args.value
    (rw (← c.self.view_is) at high) (rw (← c.self.view_is) at low) c.solution.result.items c.solution.ensures.long (rw v at c.solution.ensures.each))
