use Rattle.std.proofs.Common.{◌≡◌, ◌∙◌, ap, sym, subst, arith, length, List, ◌∷◌}
use Rattle.exec_answer_table.specs.Entries.{TableValue, with_entries}
use Rattle.sem_query.specs.Combinations.{read_from, Found}
use Rattle.sem_query.specs.Meaning.{by_column}
use Rattle.sem_query.specs.Probing.{found_beside}
use Rattle.exec_pool.specs.Extents.{cells_of}
use Rattle.exec_join.specs.Remaining.{as_found, left_of}
use Rattle.exec_query.specs.FoundTable.{with_found, with_all, HaveRoom}
use Rattle.exec_query.proofs.InPart.{none_added}
use Rattle.exec_query.proofs.TableLaws.{taken_room, taken_table, taken_none, found_same}
use Rattle.exec_query.proofs.PassedRepeats.{passed_room, passed_table, passed_less}
use Rattle.exec_query.proofs.part.walk.Goals as goal

pub walk-preserved : goal.walk-preserved
walk-preserved g c =
    let d = c.args.at.now.q.now.distinct in
    let f : Found = as_found c.next.new.tuple.items c.in-Some.count in
    let left : List Found = left_of c.args.at.now.q.now.select c.args.at.now.part.now (read_from (cells_of c.args.pool.now c.args.e.now)) c.walk.probe in
    let others : List Found = left_of c.args.at.now.q.now.select c.args.at.now.part.now (read_from (cells_of c.args.pool.now c.args.e.now)) c.next.new.self in
    let e : left ≡ f ∷ others = c.in-Some.ensures.left in
    let is : c.record_found.new.table ≡ with_entries c.walk.table (with_found d f c.walk.table.entries)
    = found_same c.distinct.result d f c.walk.table c.record_found.new.table c.distinct.ensures c.record_found.ensures in
    let whole : TableValue = with_entries c.args.table.now (with_all d (found_beside c.args.at.now.q.now c.args.at.now.part.now (read_from (cells_of c.args.pool.now c.args.e.now)) c.args.at.now.arriving (by_column c.args.at.now.row.now.items)) c.args.table.now.entries) in
    let rest : List Found = left_of c.args.at.now.q.now.select c.args.at.now.part.now (read_from (cells_of c.args.pool.now c.args.e.now)) c.pass_repeats.new.self in
    let passed = c.pass_repeats.ensures.left (read_from (cells_of c.args.pool.now c.args.e.now)) in
    record {
      underway = c.pass_repeats.ensures.underway;
      room = passed_room d f c.walk.table c.record_found.new.table others rest is passed (taken_room d f left others c.walk.table c.record_found.new.table e is c.walk.invariant.room);
      table = passed_table d f c.walk.table c.record_found.new.table others rest is passed whole (taken_table d f left others c.walk.table c.record_found.new.table whole e is c.walk.invariant.table);
      reads = omega arith;
      writes = c.next.ensures.writes ∙ c.walk.invariant.writes;
    }

pub walk-smaller : goal.walk-smaller
walk-smaller g c =
    let d = c.args.at.now.q.now.distinct in
    let f : Found = as_found c.next.new.tuple.items c.in-Some.count in
    let read = read_from (cells_of c.args.pool.now c.args.e.now) in
    let left : List Found = left_of c.args.at.now.q.now.select c.args.at.now.part.now read c.walk.probe in
    let others : List Found = left_of c.args.at.now.q.now.select c.args.at.now.part.now read c.next.new.self in
    let rest : List Found = left_of c.args.at.now.q.now.select c.args.at.now.part.now read c.pass_repeats.new.self in
    let e : left ≡ f ∷ others = c.in-Some.ensures.left in
    let is : c.record_found.new.table ≡ with_entries c.walk.table (with_found d f c.walk.table.entries)
    = found_same c.distinct.result d f c.walk.table c.record_found.new.table c.distinct.ensures c.record_found.ensures in
    let less = passed_less d f c.walk.table c.record_found.new.table others rest is (c.pass_repeats.ensures.left read) in
    omega (arith, ap length e, less)

pub returns-clause-table : goal.returns-clause-table
returns-clause-table g c =
    taken_none c.args.at.now.q.now.distinct (left_of c.args.at.now.q.now.select c.args.at.now.part.now (read_from (cells_of c.args.pool.now c.args.e.now)) c.walk.probe) c.walk.table _ c.in_default.ensures.left.0 c.walk.invariant.table

pub walk-init : goal.walk-init
walk-init g c =
    let d = c.args.at.now.q.now.distinct in
    let read = read_from (cells_of c.args.pool.now c.args.e.now) in
    let seen = c.look_along-seen.ensures.seen in
    let left = c.new_behind-probe.ensures.left read c.args.steps.now.reads c.look_along-seen.new.steps.reads seen in
    record {
      underway = c.new_behind-probe.ensures.underway;
      room = subst (λ (fs : List Found). HaveRoom d fs c.args.table.now) (sym left) c.requires.room;
      table = ap (λ (fs : List Found). with_entries c.args.table.now (with_all d fs c.args.table.now.entries)) left;
      reads = c.new_behind-probe.ensures.reads read c.args.steps.now.reads c.look_along-seen.new.steps.reads seen;
      writes = c.look_along-seen.ensures.writes;
    }

pub returns-then-is_nothing-clause-table : goal.returns-then-is_nothing-clause-table
returns-then-is_nothing-clause-table g c = none_added c.args.at.now.q.now.distinct _ c.args.table.now (c.look_along-seen.ensures.nothing (c.is_nothing.ensures.yes c.if-is_nothing.true))
