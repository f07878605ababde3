use Rattle.plan_layout.specs.Boxed.{boxed}
use Rattle.plan_layout.specs.Shared.{ArePlaced}
use Rattle.plan_layout.proofs.placing.place_part.Given as goal

abbrev pub invariant-places : goal.invariant-places
invariant-places l = ArePlaced l.q (boxed l.q 0 l.fn.parts) l.parts l.boxes l.part l.place
