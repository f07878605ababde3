use Rattle.std.proofs.Common.{◌≡◌, ℕ, ◌+◌, ◌-◌, ◌<◌, ◌≤◌, [], length, slice_index_or, take}
use Rattle.std.specs.Int.{bit_at}
use Rattle.exec_query.specs.Executor.{arrival, waiting_in}
use Rattle.exec_registry.specs.declared.queries.Runner.{Runner}
use Rattle.exec_registry.specs.Counted.{IsCounted}
use Rattle.exec_registry.specs.Registry.{most_reads, most_writes}
use Rattle.exec_registry.specs.RowByQuery.{TookFirst}
use Rattle.exec_registry.proofs.SideBySide.{under}
use Rattle.exec_registry.proofs.Spared.{mixed}
use Rattle.exec_registry.proofs.BitsLeft.{AreLeft}
use Rattle.exec_registry.proofs.taking.apply_to_each.Given as goal

abbrev pub invariant-bits : goal.invariant-bits
invariant-bits g l = record {
  size : length l.runners ≡ length l.fn.live;
  left : AreLeft l.asked.word l.left l.next;
  few : l.next ≤ 64;
  order : l.next ≤ length l.fn.live;
  live : TookFirst (arrival l.stream l.row.items) l.next l.fn.pool l.pool l.fn.live (under l.fn.live (mixed l.rows l.next l.runners));
  ahead : (i : ℕ) (r : Runner) → l.next ≤ i → i < length l.runners → IsCounted l.rows (slice_index_or l.runners i r);
  behind : (i : ℕ) (r : Runner) → i < length l.runners → (slice_index_or l.runners i r).executor.given ≤ (slice_index_or l.runners i r).before + (l.rows + 1);
  only : (k : ℕ) → bit_at l.waiting k ≡ 1 → k < l.next;
  quiet : (k : ℕ) (r : Runner) → k < l.next → k < length l.runners → bit_at l.waiting k ≡ 0 → waiting_in (slice_index_or l.runners k r).executor ≡ [];
  reads : l.steps.reads ≤ l.fn.steps.reads + most_reads (take l.next l.fn.live);
  writes : l.steps.writes ≤ l.fn.steps.writes + most_writes (take l.next l.fn.live);
}

abbrev pub decreases-bits : goal.decreases-bits
decreases-bits g l = 64 - l.next
