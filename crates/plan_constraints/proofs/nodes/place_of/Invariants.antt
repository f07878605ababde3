use Rattle.std.proofs.Common.{◌≡◌, ◌+◌, drop}
use Rattle.plan_constraints.specs.Nodes.{place_of}
use Rattle.plan_constraints.proofs.nodes.place_of.Given as goal

abbrev pub invariant-loop-i : goal.invariant-loop-i
invariant-loop-i l = place_of l.attrs l.attr ≡ l.i + place_of (drop l.i l.attrs) l.attr
