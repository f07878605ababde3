use Rattle.std.proofs.Common.{ℕ, ◌+◌, get_or, ◌∙◌, arith}
use Rattle.sem_query.specs.declared.cell.Cell.{Cell}
use Rattle.sem_query.specs.declared.cell.Cell.TheVariants.{Empty}
use Rattle.exec_pool.specs.Places.{cell_at}
use Rattle.exec_pool.proofs.Marking.{side_by_side}
use Rattle.exec_pool.proofs.Scanning.{empty_on, first_on}
use Rattle.exec_pool.proofs.scan.first_beside.Goals as goal

pub returns-in-Some-clause-reads : goal.returns-in-Some-clause-reads
returns-in-Some-clause-reads g c =
    let here : ℕ → Cell = λ j. get_or c.args.cells.now.cells (c.run_from-run.result.start + j) Empty in
    let same = side_by_side c.args.cells.now.cells c.args.page_table.now c.args.slot (c.args.first + c.pages.i) c.run_from-run.result.start c.run_from-run.result.count c.run_from-run.ensures.start c.run_from-run.ensures.page in (
      first_on (cell_at c.args.cells.now.cells c.args.page_table.now c.args.slot) here c.args.first c.args.from c.args.to c.pages.i c.in-Some.found.next c.run_from-run.result.count c.in-Some.found.cell c.pages.invariant.empty same c.in-Some.ensures.first.1 c.in-Some.ensures.first.2 c.in-Some.ensures.first.3 c.in-Some.ensures.first.0 c.pages.invariant.after (omega (arith, c.run_from-run.ensures.few, c.pages-test.true)),
      omega (arith, c.count_reads.ensures.reads, c.first_from.ensures.reads, c.pages.invariant.reads),
    )

pub pages-preserved : goal.pages-preserved
pages-preserved g c =
    let here : ℕ → Cell = λ j. get_or c.args.cells.now.cells (c.run_from-run.result.start + j) Empty in
    let same = side_by_side c.args.cells.now.cells c.args.page_table.now c.args.slot (c.args.first + c.pages.i) c.run_from-run.result.start c.run_from-run.result.count c.run_from-run.ensures.start c.run_from-run.ensures.page in
    record {
      after = omega (arith, c.pages.invariant.after);
      within = omega (arith, c.run_from-run.ensures.few, c.pages-test.true);
      empty = empty_on (cell_at c.args.cells.now.cells c.args.page_table.now c.args.slot) here c.args.first c.args.from c.pages.i c.run_from-run.result.count c.pages.invariant.empty same c.in-None.ensures.first;
      reads = omega (arith, c.count_reads-in-None.ensures.reads, c.first_from.ensures.reads, c.run_from-run.ensures.some, c.pages.invariant.reads);
      writes = c.count_reads-in-None.ensures.writes ∙ c.first_from.ensures.writes ∙ c.pages.invariant.writes;
    }
