use Rattle.plan_split_parts.specs.Fronts.{AreFronts}
use Rattle.plan_split_parts.proofs.parts.all_fronts.Given as goal

abbrev pub invariant-loop-place : goal.invariant-loop-place
invariant-loop-place l = AreFronts l.q l.place l.fronts.items
