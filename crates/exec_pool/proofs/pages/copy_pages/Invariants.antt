use Rattle.std.proofs.Common.{◌≡◌, ◌⊎◌, ◌+◌, ◌<◌, ◌≤◌, ℕ, get_or}
use Rattle.exec_pool.proofs.pages.copy_pages.Given as goal

abbrev pub invariant-loop-i : goal.invariant-loop-i
invariant-loop-i l = record {
  copied : (i : ℕ) → i < l.i → get_or l.page_table (l.to + i) 0 ≡ get_or l.pages i 0;
  others : (q : ℕ) → (q < l.to) ⊎ (l.to + l.i ≤ q) → get_or l.page_table q 0 ≡ get_or l.fn.page_table q 0;
}
