use Rattle.std.proofs.Common.{◌≡◌, ℕ, ◌<◌, ◌≤◌, length, slice_index_or}
use Rattle.exec_registry.specs.declared.queries.Runner.{Runner}
use Rattle.exec_registry.proofs.Shown.{WasCounted}
use Rattle.exec_registry.proofs.queries.count_all.Given as goal

abbrev pub invariant-loop-k : goal.invariant-loop-k
invariant-loop-k l = record {
  size : length l.runners ≡ length l.fn.runners;
  done : (i : ℕ) (r : Runner) → i < l.k → i < length l.fn.runners → WasCounted l.rows (slice_index_or l.fn.runners i r) (slice_index_or l.runners i r);
  others : (i : ℕ) (r : Runner) → l.k ≤ i → i < length l.fn.runners → slice_index_or l.runners i r ≡ slice_index_or l.fn.runners i r;
}
