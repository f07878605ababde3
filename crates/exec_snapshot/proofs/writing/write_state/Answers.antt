use Rattle.std.proofs.Common.{rules}
use Rattle.sem_query.specs.Bases.{Base}
use Rattle.exec_query.specs.Executor.{cells_in, tuples_in}
use Rattle.exec_snapshot.proofs.StateLines.{wrote_kept, broke_cells, broke_given}
use Rattle.exec_snapshot.proofs.writing.write_state.Goals as goal

pub returns-in-Ok-write_cells-clause-lines : goal.returns-in-Ok-write_cells-clause-lines
returns-in-Ok-write_cells-clause-lines g c =
    let e = c.args.kept.now in
    let base : Base = record { cells = cells_in e c.args.pool.now; table = tuples_in e; given = c.args.given } in
    wrote_kept c.write_tuples.result _ _ _ _ c.args.name.now e.query.distinct base (search rules) c.in-Ok-write_cells.ensures.lines c.write_tuples.ensures

pub returns-in-Err-write_cells-clause-lines : goal.returns-in-Err-write_cells-clause-lines
returns-in-Err-write_cells-clause-lines g c =
    let e = c.args.kept.now in
    let base : Base = record { cells = cells_in e c.args.pool.now; table = tuples_in e; given = c.args.given } in
    broke_cells _ _ _ c.args.name.now e.query.distinct base (search rules) c.in-Err-write_cells.ensures.lines

pub returns-in-Err-clause-lines : goal.returns-in-Err-clause-lines
returns-in-Err-clause-lines g c =
    let e = c.args.kept.now in
    let base : Base = record { cells = cells_in e c.args.pool.now; table = tuples_in e; given = c.args.given } in
    broke_given _ _ c.args.name.now e.query.distinct base (search rules)
