use Rattle.std.proofs.Common.{ℕ, ◌<◌}
use Rattle.cert_checker.specs.Bounds.{Keeps}
use Rattle.cert_checker.proofs.bounds.keeps_each.Given as goal

abbrev pub invariant-loop-node : goal.invariant-loop-node
invariant-loop-node l = (j : ℕ) → j < l.node → Keeps l.bounds l.c j
