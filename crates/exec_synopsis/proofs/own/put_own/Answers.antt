use Rattle.std.proofs.Common.{List, set, ap, ◌∙◌}
use Rattle.sem_query.specs.declared.cell.Cell.{Cell}
use Rattle.exec_pool.specs.Extents.{cells_of, with_cells}
use Rattle.exec_synopsis.proofs.OwnLaws.{put-own, stays-put}
use Rattle.exec_synopsis.proofs.own.put_own.Goals as goal

pub returns-then-stays-clause-cell : goal.returns-then-stays-clause-cell
returns-then-stays-clause-cell g c =
    stays-put c.args.pool.now c.args.e.now c.args.part.now c.args.pos c.args.row.now.items c.args.own.now c.requires.live c.requires.own
    (c.stays.ensures.0 c.if-stays.true)

pub returns-clause-cell : goal.returns-clause-cell
returns-clause-cell g c =
    c.write.ensures.cells
    ∙ ap (λ (cs : List Cell). with_cells c.args.pool.now c.args.e.now cs)
    (ap (λ (cell : Cell). set (cells_of c.args.pool.now c.args.e.now) c.args.own.now.number cell) c.with_row.ensures
    ∙ put-own c.args.part.now c.args.pos c.args.row.now.items (cells_of c.args.pool.now c.args.e.now) c.args.own.now c.requires.own)
