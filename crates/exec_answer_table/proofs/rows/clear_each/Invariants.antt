use Rattle.std.proofs.Common.{◌≡◌, ℕ, ◌<◌, ◌⊎◌, get_or}
use Rattle.exec_answer_table.proofs.rows.clear_each.Given as goal

abbrev pub invariant-loop-i : goal.invariant-loop-i
invariant-loop-i l = record {
  cleared : (j : ℕ) → j < l.i → get_or l.counts (get_or l.numbers.items j 0) 0 ≡ 0;
  others : (k : ℕ) → (get_or l.counts k 0 ≡ 0) ⊎ (get_or l.counts k 0 ≡ get_or l.fn.counts k 0);
}
