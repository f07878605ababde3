use Rattle.std.specs.Prelude.{⊤}
use Rattle.plan_implied_signs.proofs.showing.least_in.Given as goal

abbrev pub invariant-conditions : goal.invariant-conditions
invariant-conditions l = ⊤
