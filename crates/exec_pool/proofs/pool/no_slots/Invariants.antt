use Rattle.std.proofs.Common.{◌≡◌, ℕ, length, get_or, None}
use Rattle.exec_pool.proofs.pool.no_slots.Given as goal

abbrev pub invariant-loop-i : goal.invariant-loop-i
invariant-loop-i l = record {
  so_far : length l.slots.items ≡ l.i;
  none : (s : ℕ) → get_or l.slots.items s None ≡ None;
}
