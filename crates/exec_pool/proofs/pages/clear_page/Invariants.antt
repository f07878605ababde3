use Rattle.std.proofs.Common.{◌≡◌, ◌≢◌, ◌+◌, ◌*◌, ◌/◌, ◌<◌, ℕ, get_or}
use Rattle.sem_query.specs.declared.cell.Cell.TheVariants.{Empty}
use Rattle.exec_pool.proofs.pages.clear_page.Given as goal

abbrev pub invariant-loop-i : goal.invariant-loop-i
invariant-loop-i l = record {
  cleared : (k : ℕ) → k < l.i → get_or l.cells (l.page * 64 + k) Empty ≡ Empty;
  others : (q : ℕ) → q / 64 ≢ l.page → get_or l.cells q Empty ≡ get_or l.fn.cells q Empty;
}
