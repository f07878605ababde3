use Rattle.plan_closure.proofs.bounds.Bounds.satisfiable.Goals as goal

pub returns : goal.returns
returns c = rw (← c.self.view_is) (c.satisfiable.ensures _ _ c.self.invariant.closure)
