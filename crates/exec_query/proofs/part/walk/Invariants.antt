use Rattle.std.proofs.Common.{◌≡◌, ◌≤◌, ◌+◌, length}
use Rattle.sem_query.specs.Meaning.{by_column}
use Rattle.sem_query.specs.Combinations.{read_from}
use Rattle.sem_query.specs.Probing.{found_beside}
use Rattle.exec_pool.specs.Extents.{cells_of}
use Rattle.exec_join.specs.Costs.{walk_reads}
use Rattle.exec_join.specs.Remaining.{IsUnderway, left_of, reads_left}
use Rattle.exec_answer_table.specs.Entries.{with_entries}
use Rattle.exec_query.specs.FoundTable.{with_all, HaveRoom}
use Rattle.exec_query.proofs.part.walk.Given as goal

abbrev pub invariant-walk : goal.invariant-walk
invariant-walk g l = record {
  underway : IsUnderway l.at.part.now l.probe;
  room : HaveRoom l.at.q.now.distinct (left_of l.at.q.now.select l.at.part.now (read_from (cells_of l.pool l.e)) l.probe) l.table;
  table : with_entries l.table (with_all l.at.q.now.distinct (left_of l.at.q.now.select l.at.part.now (read_from (cells_of l.pool l.e)) l.probe) l.table.entries)
      ≡ with_entries l.fn.table (with_all l.at.q.now.distinct (found_beside l.at.q.now l.at.part.now (read_from (cells_of l.pool l.e)) l.at.arriving (by_column l.at.row.now.items)) l.fn.table.entries);
  reads : l.steps.reads + reads_left l.at.part.now l.probe ≤ l.fn.steps.reads + walk_reads l.at.part.now l.at.arriving;
  writes : l.steps.writes ≡ l.fn.steps.writes;
}

abbrev pub decreases-walk : goal.decreases-walk
decreases-walk g l = length (left_of l.at.q.now.select l.at.part.now (read_from (cells_of l.pool l.e)) l.probe)
