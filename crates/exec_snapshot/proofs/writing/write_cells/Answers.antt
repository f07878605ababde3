use Rattle.std.proofs.Common.{refl, ◌∙◌, subst, arith}
use Rattle.io_streams.specs.Sink.{Wrote, BrokeOff}
use Rattle.exec_query.specs.Executor.{cells_in}
use Rattle.exec_snapshot.specs.Lines.{content_in, cell_statement, statements_text}
use Rattle.exec_snapshot.proofs.CellLines.{wrote_none, wrote_cell, broke_cell}
use Rattle.exec_snapshot.proofs.writing.write_cells.Goals as goal

pub loop-index-init : goal.loop-index-init
loop-index-init g c = record {
  lines = wrote_none c.args.name.now (g.O.Sink.seen c.args.out.now);
  reads = omega arith;
  writes = refl;
  within = omega arith;
}

pub returns-in-Err-clause-lines : goal.returns-in-Err-clause-lines
returns-in-Err-clause-lines g c =
    broke_cell c.args.name.now (cells_in c.args.kept.now c.args.pool.now) c.loop-index.index _ _ _ c.loop-index.invariant.lines
    (subst (λ x. BrokeOff (g.O.Sink.seen c.loop-index.out) (g.O.Sink.seen c.write_cell.new.out) (statements_text (cell_statement c.args.name.now c.loop-index.index (content_in x)))) c.cell-cell.ensures.value c.in-Err.ensures)

pub loop-index-preserved : goal.loop-index-preserved
loop-index-preserved g c = record {
  lines =
      wrote_cell c.args.name.now (cells_in c.args.kept.now c.args.pool.now) c.loop-index.index _ _ _ c.loop-index.invariant.lines
      (subst (λ x. Wrote (g.O.Sink.seen c.loop-index.out) (g.O.Sink.seen c.write_cell.new.out) (statements_text (cell_statement c.args.name.now c.loop-index.index (content_in x)))) c.cell-cell.ensures.value c.in-Ok.ensures);
  reads = omega (arith, c.loop-index.invariant.reads, c.cell-cell.ensures.reads);
  writes = c.cell-cell.ensures.writes ∙ c.loop-index.invariant.writes;
  within = omega (arith, c.loop-index-test.true);
}
