use Rattle.std.proofs.Common.{◌≡◌, ◌≢◌, ◌+◌, ◌/◌, ◌<◌, ℕ, length, get_or}
use Rattle.sem_query.specs.declared.cell.Cell.TheVariants.{Empty}
use Rattle.exec_pool.proofs.pages.clear_pages.Given as goal

abbrev pub invariant-loop-j : goal.invariant-loop-j
invariant-loop-j l = record {
  room : l.cells.room ≡ l.fn.cells.room;
  len : length l.cells.cells ≡ length l.fn.cells.cells;
  cleared : (j q : ℕ) → j < l.j → q / 64 ≡ get_or l.page_table (l.from + j) 0 → get_or l.cells.cells q Empty ≡ Empty;
  others : (q : ℕ) → ((j : ℕ) → j < l.j → q / 64 ≢ get_or l.page_table (l.from + j) 0) → get_or l.cells.cells q Empty ≡ get_or l.fn.cells.cells q Empty;
}
