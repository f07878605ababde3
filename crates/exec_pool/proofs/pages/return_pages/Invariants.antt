use Rattle.std.proofs.Common.{◌≡◌, ◌+◌, ◌<◌, ◌≤◌, ℕ, length, get_or, vec_capacity}
use Rattle.exec_pool.proofs.pages.return_pages.Given as goal

abbrev pub invariant-loop-i : goal.invariant-loop-i
invariant-loop-i l = record {
  len : length l.spare.items ≡ length l.fn.spare.items + l.i;
  before : (k : ℕ) → k < length l.fn.spare.items → get_or l.spare.items k 0 ≡ get_or l.fn.spare.items k 0;
  back : (i : ℕ) → i < l.i → get_or l.spare.items (length l.fn.spare.items + i) 0 ≡ get_or l.page_table (l.from + i) 0;
  room : vec_capacity l.fn.spare ≤ vec_capacity l.spare;
}
