use Rattle.std.proofs.Common.{ℕ, sym, subst, Some, List}
use Rattle.plan_closure.specs.Answers.{IsCycleAnswer}
use Rattle.plan_closure.proofs.Upper.{cycle_is}
use Rattle.plan_closure.proofs.bounds.Bounds.cycle.Goals as goal

pub returns-in-Some : goal.returns-in-Some
returns-in-Some c =
    let p = (cycle_is _ _ _ _ c.self.invariant.closure.settled).1 c.in-Some.cycle (sym c.in-Some.ensures) in
    rw (← c.self.view_is) (subst (λ (es : List ℕ). IsCycleAnswer c.self.inside.constraints.items (Some es)) (sym c.list.ensures) p)

pub returns-in-None : goal.returns-in-None
returns-in-None c = rw (← c.self.view_is) ((cycle_is _ _ _ _ c.self.invariant.closure.settled).0 (sym c.in-None.ensures))
