use Rattle.plan_layout.specs.Boxed.{boxed}
use Rattle.plan_layout.specs.Shared.{ArePlaced}
use Rattle.plan_layout.proofs.placing.share.Given as goal

abbrev pub invariant-parts : goal.invariant-parts
invariant-parts l = ArePlaced l.q (boxed l.q 0 l.fn.parts) l.parts l.boxes l.part 0
