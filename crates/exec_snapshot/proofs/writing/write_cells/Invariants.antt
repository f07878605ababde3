use Rattle.std.proofs.Common.{◌≡◌, ◌≤◌, ◌+◌, take}
use Rattle.io_streams.specs.Sink.{Wrote}
use Rattle.exec_query.specs.Executor.{cells_in}
use Rattle.exec_snapshot.specs.Lines.{cell_statements, statements_text}
use Rattle.exec_snapshot.proofs.writing.write_cells.Given as goal

-- the lines for the cells so far
abbrev pub invariant-loop-index : goal.invariant-loop-index
invariant-loop-index g l = record {
  lines : Wrote (g.O.Sink.seen l.fn.out) (g.O.Sink.seen l.out) (statements_text (cell_statements l.name 0 (take l.index (cells_in l.kept l.pool))));
  reads : l.steps.reads ≤ l.fn.steps.reads + l.index;
  writes : l.steps.writes ≡ l.fn.steps.writes;
  within : l.index ≤ l.index-end;
}
