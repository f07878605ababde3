use Rattle.std.proofs.Common.{◌≡◌, ◌<◌, ℕ, length}
use Rattle.sem_query.specs.Meaning.{by_column}
use Rattle.sem_query.specs.Combinations.{row_of_values}
use Rattle.exec_ranges.specs.Values.{extreme_of}
use Rattle.exec_saturation.proofs.cell_row.row_of_cell.Given as goal

abbrev pub invariant-columns : goal.invariant-columns
invariant-columns l = record {
  many : length l.row.items ≡ l.column;
  each : (column : ℕ) → column < l.column → by_column l.row.items column ≡ row_of_values l.q l.part l.pos l.values.items (extreme_of l.cell.held) column;
}
