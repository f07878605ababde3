use Rattle.std.proofs.Common.{◌≡◌, ◌++◌, ◌-◌, take, drop, length}
use Rattle.std.specs.Prelude.{replicate}
use Rattle.plan_closure.specs.Entries.{walked}
use Rattle.plan_closure.proofs.path.ConstraintPath.walk.Given as goal

abbrev pub invariant-loop-k : goal.invariant-loop-k
invariant-loop-k l =
    (length l.steps ≡ 12) × (take l.k l.steps ++ walked l.entries (l.length - l.k) l.at l.to ≡ walked l.entries l.length l.from l.to)
    × (drop l.k l.steps ≡ drop l.k (replicate 12 0))
