use Rattle.std.proofs.Common.{◌≡◌, ◌<◌, ℕ, arith, ap, sym, ◌∙◌, subst, Some, List}
use Rattle.plan_closure.specs.BoundsValue.{BoundsValue}
use Rattle.plan_closure.specs.Answers.{IsPathAnswer}
use Rattle.plan_constraints.specs.Solutions.{IsSatisfiable}
use Rattle.plan_closure.proofs.Upper.{tight_if_satisfiable, path_some, upper_none, modest_entry}
use Rattle.plan_closure.proofs.bounds.Bounds.path.Goals as goal

pub walk-requires : goal.walk-requires
walk-requires c =
    let e : c.self.inside.closure.attrs ≡ c.args.self.now.attrs = ap (λ (v : BoundsValue). v.attrs) c.self.view_is in
    let h = c.self.invariant.closure in
    let few : c.self.inside.closure.attrs < 13 = h.few in
    let s : IsSatisfiable c.self.inside.constraints.items = rw (← c.self.view_is) at c.requires.satisfiable in
    let t = tight_if_satisfiable _ _ _ _ h.settled s in
    (modest_entry _ (omega arith) _ _ t h.modest c.args.i c.args.j (omega arith) (omega arith) c.in-Some.entry (sym c.in-Some.ensures)).short

pub returns-in-Some : goal.returns-in-Some
returns-in-Some c =
    let e : c.self.inside.closure.attrs ≡ c.args.self.now.attrs = ap (λ (v : BoundsValue). v.attrs) c.self.view_is in
    let h = c.self.invariant.closure in
    let few : c.self.inside.closure.attrs < 13 = h.few in
    let s : IsSatisfiable c.self.inside.constraints.items = rw (← c.self.view_is) at c.requires.satisfiable in
    let t = tight_if_satisfiable _ _ _ _ h.settled s in
    let p = path_some _ (omega arith) _ _ t h.modest c.args.i c.args.j (omega arith) (omega arith) c.in-Some.entry (sym c.in-Some.ensures) in
    rw (← c.self.view_is) (subst (λ (es : List ℕ). IsPathAnswer c.self.inside.constraints.items c.args.i c.args.j (Some es)) (sym (c.list.ensures ∙ c.walk.ensures)) p)

pub returns-in-None : goal.returns-in-None
returns-in-None c =
    let e : c.self.inside.closure.attrs ≡ c.args.self.now.attrs = ap (λ (v : BoundsValue). v.attrs) c.self.view_is in
    let h = c.self.invariant.closure in
    let few : c.self.inside.closure.attrs < 13 = h.few in
    let s : IsSatisfiable c.self.inside.constraints.items = rw (← c.self.view_is) at c.requires.satisfiable in
    let t = tight_if_satisfiable _ _ _ _ h.settled s in
    rw (← c.self.view_is) (upper_none _ (omega arith) _ _ t h.modest c.args.i c.args.j (omega arith) (omega arith) (sym c.in-None.ensures))
