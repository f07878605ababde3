use Rattle.std.proofs.Common.{◌≡◌, ℕ, ◌<◌, length}
use Rattle.plan_closure.specs.Entries.{IsUnlinkedAt}
use Rattle.plan_closure.proofs.entry.unlinked.Given as goal

abbrev pub invariant-loop-k : goal.invariant-loop-k
invariant-loop-k l = (length l.entries ≡ 169) × ((k : ℕ) → k < l.k → IsUnlinkedAt l.entries k)
