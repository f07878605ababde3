use Rattle.std.proofs.Common.{◌≡◌, ◌∷◌, take}
use Rattle.plan_closure.proofs.closure.behind.Given as goal

abbrev pub invariant-loop-number : goal.invariant-loop-number
invariant-loop-number l = l.list.items ≡ l.fn.first ∷ take l.number-index l.rest
