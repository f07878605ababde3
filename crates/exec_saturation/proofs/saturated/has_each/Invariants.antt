use Rattle.std.proofs.Common.{◌≡◌, ◌≤◌, ◌+◌, ◌-◌, ◌*◌, length, All}
use Rattle.std.specs.List.{list_all}
use Rattle.sem_query.specs.Meaning.{by_column}
use Rattle.sem_query.specs.Combinations.{read_from, Found}
use Rattle.sem_query.specs.Probing.{found_beside}
use Rattle.sem_query.specs.Numbers.{share}
use Rattle.exec_pool.specs.Extents.{cells_of}
use Rattle.exec_join.specs.Remaining.{IsUnderway, left_of, reads_left}
use Rattle.exec_saturation.proofs.Listed.{is_listed}
use Rattle.exec_saturation.proofs.saturated.has_each.Given as goal

abbrev pub invariant-walk : goal.invariant-walk
invariant-walk g l = record {
  underway : IsUnderway l.at.part.now l.probe;
  listed : list_all (is_listed l.table) (left_of l.at.q.now.select l.at.part.now (read_from (cells_of l.pool l.e)) l.probe)
      ≡ list_all (is_listed l.table) (found_beside l.at.q.now l.at.part.now (read_from (cells_of l.pool l.e)) l.at.arriving (by_column l.at.row.now.items));
  ones : All (λ (f : Found). f.count ≡ 1) (found_beside l.at.q.now l.at.part.now (read_from (cells_of l.pool l.e)) l.at.arriving (by_column l.at.row.now.items));
  reads : l.steps.reads + reads_left l.at.part.now l.probe ≤ l.fn.steps.reads + (length l.at.part.now.streams.items - 1) * share l.at.part.now;
  writes : l.steps.writes ≡ l.fn.steps.writes;
}

abbrev pub decreases-walk : goal.decreases-walk
decreases-walk g l = length (left_of l.at.q.now.select l.at.part.now (read_from (cells_of l.pool l.e)) l.probe)
