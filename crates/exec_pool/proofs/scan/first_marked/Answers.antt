use Rattle.std.proofs.Common.{◌≡◌, ℕ, ◌+◌, ◌-◌, get_or, ap, ◌∙◌, arith}
use Rattle.sem_query.specs.declared.cell.Cell.{Cell}
use Rattle.sem_query.specs.declared.cell.Cell.TheVariants.{Empty}
use Rattle.exec_pool.specs.Places.{cell_at}
use Rattle.exec_pool.specs.Strides.{words_over}
use Rattle.exec_pool.proofs.Marking.{side_by_side}
use Rattle.exec_pool.proofs.Scanning.{empty_on, first_on}
use Rattle.exec_pool.proofs.Words.{one_word, page_begins, page_ends, all_words}
use Rattle.exec_pool.proofs.scan.first_marked.Goals as goal

pub returns-in-Some-clause-reads : goal.returns-in-Some-clause-reads
returns-in-Some-clause-reads g c =
    let here : ℕ → Cell = λ j. get_or c.args.cells.now.cells (c.run_from-run.result.start + j) Empty in
    let same = side_by_side c.args.cells.now.cells c.args.page_table.now c.args.slot (c.args.first + c.pages.i) c.run_from-run.result.start c.run_from-run.result.count c.run_from-run.ensures.start c.run_from-run.ensures.page in
    let word = one_word c.args.first c.pages.i c.in-Some.found.next (page_begins c.args.first c.pages.i c.args.count c.pages-test.true c.pages.invariant.page)
    (let w = c.in-Some.ensures.first.0 in let p = c.run_from-run.ensures.page in omega (arith, w, p)) in (
      first_on (cell_at c.args.cells.now.cells c.args.page_table.now c.args.slot) here c.args.first 0 c.args.count c.pages.i c.in-Some.found.next c.run_from-run.result.count c.in-Some.found.cell c.pages.invariant.empty same c.in-Some.ensures.first.1 c.in-Some.ensures.first.2 c.in-Some.ensures.first.3 c.in-Some.ensures.first.0 (omega arith) (omega (arith, c.run_from-run.ensures.few, c.pages-test.true)),
      (let r = c.first_from.ensures.reads in let i = c.pages.invariant.reads in omega (arith, r, i, word)),
    )

pub returns-clause-reads : goal.returns-clause-reads
returns-clause-reads g c = all_words _ c.args.first c.pages.i c.args.count _ _ c.pages.invariant.within c.pages-test.false c.pages.invariant.empty c.pages.invariant.reads

pub pages-preserved : goal.pages-preserved
pages-preserved g c =
    let here : ℕ → Cell = λ j. get_or c.args.cells.now.cells (c.run_from-run.result.start + j) Empty in
    let same = side_by_side c.args.cells.now.cells c.args.page_table.now c.args.slot (c.args.first + c.pages.i) c.run_from-run.result.start c.run_from-run.result.count c.run_from-run.ensures.start c.run_from-run.ensures.page in
    let more = c.run_from-run.ensures.some in
    let word = one_word c.args.first c.pages.i (c.run_from-run.result.count - 1) (page_begins c.args.first c.pages.i c.args.count c.pages-test.true c.pages.invariant.page)
    (let p = c.run_from-run.ensures.page in omega (arith, p, more)) in
    record {
      within = omega (arith, c.run_from-run.ensures.few, c.pages-test.true);
      empty = empty_on (cell_at c.args.cells.now.cells c.args.page_table.now c.args.slot) here c.args.first 0 c.pages.i c.run_from-run.result.count c.pages.invariant.empty same c.in-None.ensures.first;
      page = page_ends c.args.first c.pages.i c.args.count c.run_from-run.result.count c.pages-test.true c.run_from-run.ensures.whole;
      reads = (let r = c.first_from.ensures.reads in let i = c.pages.invariant.reads in
          let e : c.pages.i + c.run_from-run.result.count ≡ c.pages.i + (c.run_from-run.result.count - 1) + 1 = omega (arith, more) in
          let same = ap (words_over c.args.first) e in omega (arith, r, i, word, same));
      writes = c.first_from.ensures.writes ∙ c.pages.invariant.writes;
    }
