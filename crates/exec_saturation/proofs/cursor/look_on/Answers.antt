use Rattle.std.proofs.Common.{◌∙◌, arith, inl, inr, refl}
use Rattle.exec_answer_table.specs.Entries.{tuples_of}
use Rattle.sem_query.specs.Combinations.{read_from}
use Rattle.exec_pool.specs.Extents.{cells_of}
use Rattle.exec_saturation.specs.Looking.{work_of}
use Rattle.exec_saturation.proofs.KnownCells.{all-known, moved-on, stays-where}
use Rattle.exec_saturation.proofs.cursor.look_on.Goals as goal

pub cells-preserved : goal.cells-preserved
cells-preserved g c = record {
  known = c.in-On.ensures.stepped.2 c.cells.invariant.known;
  moved = inr (moved-on c.args.from.at c.cells.came.at c.in-On.next.at c.args.from.left c.cells.came.left c.cells.invariant.moved c.in-On.ensures.stepped.1);
  reads = (let r = c.in-On.ensures.reads in let w = c.cells.invariant.reads in omega (arith, r, w));
  writes = c.go_on.ensures.writes ∙ c.cells.invariant.writes;
}

pub returns-clause-known : goal.returns-clause-known
returns-clause-known g c =
    all-known c.args.planned.now.query c.args.parts.now (read_from (cells_of c.args.pool.now c.args.planned.now.extent)) (tuples_of c.args.table.now.entries)
    c.cells.came.at (let n = c.cells-test.false in let m = c.len.ensures in omega (arith, n, m)) c.cells.invariant.known

pub returns-in-Stays-clause-moves : goal.returns-in-Stays-clause-moves
returns-in-Stays-clause-moves g c =
    stays-where c.args.from.at c.cells.came.at c.args.from.left c.cells.came.left (work_of c.args.planned.now.plan) c.cells.invariant.moved c.in-Stays.ensures.stepped

pub cells-init : goal.cells-init
cells-init g c = record {
  known = c.requires.known;
  moved = inl (refl, refl);
  reads = omega arith;
  writes = refl;
}
