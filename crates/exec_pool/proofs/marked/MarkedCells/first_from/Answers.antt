use Rattle.std.proofs.Common.{◌≡◌, ◌+◌, ◌<◌, ◌∙◌, Some, None, length, get_or, arith}
use Rattle.std.proofs.lemmas.List.{get_or_default}
use Rattle.sem_query.specs.declared.cell.Cell.TheVariants.{Empty}
use Rattle.exec_pool.proofs.Marking.{first_marked}
use Rattle.exec_pool.proofs.marked.MarkedCells.first_from.Goals as goal

pub returns-in-Some-clause-first : goal.returns-in-Some-clause-first
returns-in-Some-clause-first g c =
    let inside = rw (← c.self.view_is) at c.requires.inside in
    let m = first_marked c.self.inside.cells.items c.self.inside.marks.items c.args.place c.args.count _ (Some c.in-Some.told.ahead) c.self.invariant.0 inside c.requires.page c.index.ensures c.in-Some.ensures.first in
    let pages = c.self.invariant.0.pages in
    let page = c.requires.page in
    let below = m.0 in
    let within : c.args.place + c.in-Some.told.ahead < length c.self.inside.cells.items = omega (arith, inside, pages, page, below) in
    let cell = c.look_told.ensures ∙ rw c.ahead-ahead.ensures at c.index-in-Some.ensures ∙ get_or_default c.self.inside.cells.items (c.args.place + c.in-Some.told.ahead) c.index-in-Some.result.now Empty within in
    rw (← c.self.view_is) (rw c.ahead-ahead.ensures (m.0, m.1, m.2, cell))

pub returns-in-None-clause-first : goal.returns-in-None-clause-first
returns-in-None-clause-first g c =
    let inside = rw (← c.self.view_is) at c.requires.inside in
    rw (← c.self.view_is)
    (first_marked c.self.inside.cells.items c.self.inside.marks.items c.args.place c.args.count _ None c.self.invariant.0 inside c.requires.page c.index.ensures c.in-None.ensures.first)
