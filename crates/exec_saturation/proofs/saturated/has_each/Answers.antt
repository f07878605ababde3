use Rattle.std.proofs.Common.{◌∙◌, sym, arith, List}
use Rattle.sem_query.specs.Combinations.{read_from, Reading, Found}
use Rattle.exec_pool.specs.Extents.{cells_of}
use Rattle.exec_join.specs.Remaining.{as_found, left_of}
use Rattle.exec_saturation.proofs.Listed.{passed-listed}
use Rattle.exec_saturation.proofs.saturated.has_each.Goals as goal

pub walk-preserved : goal.walk-preserved
walk-preserved g c =
    let q = c.args.at.now.q.now in
    let plan = c.args.at.now.part.now in
    let read : Reading = read_from (cells_of c.args.pool.now c.args.e.now) in
    let f : Found = as_found c.next.new.tuple.items c.in-Some._count in
    let left : List Found = left_of q.select plan read c.walk.probe in
    let others : List Found = left_of q.select plan read c.next.new.self in
    let rest : List Found = left_of q.select plan read c.pass_repeats.new.self in
    record {
      underway = c.pass_repeats.ensures.underway;
      listed =
          passed-listed c.args.table.now q.distinct f left others rest c.in-Some.ensures.left (sym c.has.ensures ∙ c.if-not-has.false) (c.pass_repeats.ensures.left read)
          ∙ c.walk.invariant.listed;
      ones = c.walk.invariant.ones;
      reads = omega arith;
      writes = c.next.ensures.writes ∙ c.walk.invariant.writes;
    }
