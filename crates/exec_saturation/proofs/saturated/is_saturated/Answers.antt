use Rattle.std.proofs.Common.{sym, subst, arith}
use Rattle.exec_answer_table.specs.Entries.{tuples_of}
use Rattle.sem_query.specs.declared.cell.Cell.{Cell}
use Rattle.sem_query.specs.Cells.{FitsKind}
use Rattle.sem_query.specs.Combinations.{read_from, Reading}
use Rattle.sem_query.specs.Plan.{stream_at}
use Rattle.exec_pool.specs.Extents.{cells_of}
use Rattle.exec_saturation.proofs.CellChoices.{saturated-by-row}
use Rattle.exec_saturation.proofs.saturated.is_saturated.Goals as goal

pub returns-clause-value : goal.returns-clause-value
returns-clause-value g c =
    let q = c.args.at.now.q.now in
    let plan = c.args.at.now.part.now in
    let place = c.args.at.now.arriving in
    let read : Reading = read_from (cells_of c.args.pool.now c.args.e.now) in
    let n = c.requires.ready.held.walked.plan.count in
    let fits : FitsKind (stream_at plan place).kind c.args.cell.held
    = subst (λ (d : Cell). FitsKind (stream_at plan place).kind d) (sym c.requires.held) (c.requires.ready.fitting place c.args.cell.i (omega (arith, c.requires.here, n)) c.requires.inside) in
    let law = saturated-by-row q plan c.select-select.ensures.limits c.requires.ready.held.walked read (tuples_of c.args.table.now.entries) place c.args.cell.i
    (stream_at plan place).kind c.args.cell.held c.requires.held fits (c.is_empty.ensures.no c.if-is_empty.false) c.args.at.now.row.now.items c.requires.row in
    (λ t. law.0 (c.has_each.ensures.value.0 t), λ s. c.has_each.ensures.value.1 (law.1 s))
