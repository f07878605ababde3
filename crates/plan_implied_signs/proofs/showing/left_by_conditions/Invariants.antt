use Rattle.plan_implied_signs.specs.Showing.{HasPossible}
use Rattle.plan_implied_signs.proofs.showing.left_by_conditions.Given as goal

abbrev pub invariant-conditions : goal.invariant-conditions
invariant-conditions l = HasPossible l.part l.place l.pair l.possible
