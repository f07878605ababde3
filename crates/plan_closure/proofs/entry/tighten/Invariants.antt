use Rattle.std.proofs.Common.{◌≡◌, ℕ, ◌+◌, ◌*◌, ◌<◌, ◌≤◌, length, slice_index_or, None}
use Rattle.plan_closure.specs.Entries.{IsShorterAt}
use Rattle.plan_closure.proofs.entry.tighten.Given as goal

abbrev pub invariant-loop-i : goal.invariant-loop-i
invariant-loop-i l =
    (length l.entries ≡ 169) × ((i j : ℕ) → i < l.i → j < l.nodes → IsShorterAt l.fn.entries l.c l.number l.entries (13 * i + j))
    × ((k : ℕ) → 13 * l.i ≤ k → slice_index_or l.entries k None ≡ slice_index_or l.fn.entries k None) × ((j : ℕ) → j < 13 → slice_index_or l.entries (13 * l.c.right + j) None ≡ slice_index_or l.fn.entries (13 * l.c.right + j) None)
