use Rattle.std.proofs.Common.{◌≡◌, ◌⊎◌, ◌+◌, ◌≤◌}
use Rattle.exec_answer_table.specs.Entries.{tuples_of}
use Rattle.sem_query.specs.Combinations.{read_from}
use Rattle.exec_pool.specs.Extents.{cells_of}
use Rattle.exec_saturation.specs.declared.saturation.Saturation.{Saturation}
use Rattle.exec_saturation.specs.Known.{IsBefore, AreSaturated}
use Rattle.exec_saturation.proofs.cursor.look_on.Given as goal

abbrev pub invariant-cells : goal.invariant-cells
invariant-cells g l = record {
  known : AreSaturated (Saturation.Before l.came.at) l.planned.query l.parts (read_from (cells_of l.pool l.planned.extent)) (tuples_of l.table.entries);
  moved : ((l.came.at ≡ l.fn.from.at) × (l.came.left ≡ l.fn.from.left)) ⊎ IsBefore l.came.at l.fn.from.at.part l.fn.from.at.place l.fn.from.at.cell;
  reads : l.steps.reads + l.came.left ≤ l.fn.steps.reads + l.fn.from.left;
  writes : l.steps.writes ≡ l.fn.steps.writes;
}

abbrev pub decreases-cells : goal.decreases-cells
decreases-cells g l = l.came.left
