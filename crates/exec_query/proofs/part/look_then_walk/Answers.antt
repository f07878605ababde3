use Rattle.std.proofs.Common.{◌∙◌, ◌<◌, length, List, [], ◌∷◌, ap, sym, arith}
use Rattle.sem_query.specs.Combinations.{read_from, Found}
use Rattle.sem_query.specs.Meaning.{by_column}
use Rattle.sem_query.specs.Probing.{found_beside}
use Rattle.exec_pool.specs.Extents.{cells_of}
use Rattle.exec_answer_table.specs.Entries.{has}
use Rattle.sem_laws.proofs.Tests.{and-right}
use Rattle.sem_query.proofs.Has.{Has-from_contains}
use Rattle.exec_query.specs.FoundTable.{AreOld}
use Rattle.exec_query.proofs.OneTuple.{each_known}
use Rattle.exec_join.proofs.StartLaws.{walk-few}
use Rattle.exec_join.specs.Costs.{walk_reads}
use Rattle.exec_join.specs.Remaining.{as_found}
use Rattle.exec_query.proofs.TableLaws.{found_same}
use Rattle.exec_query.proofs.InPart.{none_added, one_added}
use Rattle.exec_query.proofs.OldAnswers.{old-adds-none}
use Rattle.exec_query.proofs.RowReads.{told-reads, walk-reads}
use Rattle.exec_query.proofs.part.look_then_walk.Goals as goal

pub returns-in-Nothing-clause-table : goal.returns-in-Nothing-clause-table
returns-in-Nothing-clause-table g c =
    none_added c.args.at.now.q.now.distinct (found_beside c.args.at.now.q.now c.args.at.now.part.now (read_from (cells_of c.args.pool.now c.args.e.now)) c.args.at.now.arriving (by_column c.args.at.now.row.now.items)) c.args.table.now
    c.in-Nothing.ensures.found

pub returns-in-One-clause-table : goal.returns-in-One-clause-table
returns-in-One-clause-table g c =
    let d = c.args.at.now.q.now.distinct in
    let f : Found = as_found c.look_before_walk.new.tuple.items c.from.result in
    let all : List Found = found_beside c.args.at.now.q.now c.args.at.now.part.now (read_from (cells_of c.args.pool.now c.args.e.now)) c.args.at.now.arriving (by_column c.args.at.now.row.now.items) in
    one_added d f all c.args.table.now c.record_found.new.table (c.in-One.ensures.found ∙ ap (λ n. as_found c.look_before_walk.new.tuple.items n ∷ []) (sym c.from.ensures)) (found_same c.distinct.result d f c.args.table.now c.record_found.new.table c.distinct.ensures c.record_found.ensures)

pub returns-then-has-clause-table : goal.returns-then-has-clause-table
returns-then-has-clause-table g c =
    let d = c.args.at.now.q.now.distinct in
    let read = read_from (cells_of c.args.pool.now c.args.e.now) in
    let all : List Found = found_beside c.args.at.now.q.now c.args.at.now.part.now read c.args.at.now.arriving (by_column c.args.at.now.row.now.items) in
    let here : c.args.at.now.arriving < length c.args.at.now.part.now.streams.items = (let h = c.requires.here in let n = c.requires.ready.held.walked.plan.count in omega (arith, h, n)) in
    let one = c.determined_tuple.ensures c.if-determined_tuple.true in
    let is_old : AreOld d all c.args.table.now.entries
    = record {
      once = one.distinct;
      old = λ f k. ap (λ t. has t c.args.table.now.entries) (each_known c.args.at.now.q.now c.args.at.now.part.now read c.args.at.now.arriving c.args.at.now.row.now.items c.determined_tuple.new.tuple.items here one.known f (Has-from_contains all f k))
          ∙ and-right _ _ (sym c.has.ensures ∙ c.if-has.true);
    } in
    old-adds-none d all c.args.table.now is_old

pub returns-in-Nothing-clause-reads : goal.returns-in-Nothing-clause-reads
returns-in-Nothing-clause-reads g c = told-reads c.args.at.now.part.now c.args.steps.now.reads c.look_before_walk.new.steps.reads c.look_before_walk.ensures.few

pub returns-in-One-clause-reads : goal.returns-in-One-clause-reads
returns-in-One-clause-reads g c = told-reads c.args.at.now.part.now c.args.steps.now.reads c.look_before_walk.new.steps.reads c.look_before_walk.ensures.few

pub returns-in-Unknown-clause-reads : goal.returns-in-Unknown-clause-reads
returns-in-Unknown-clause-reads g c =
    walk-reads c.args.at.now.part.now c.args.steps.now.reads c.look_before_walk.new.steps.reads c.walk.new.steps.reads (walk_reads c.args.at.now.part.now c.args.at.now.arriving)
    (λ two. c.look_before_walk.ensures.alone two c.in-Unknown.is) c.look_before_walk.ensures.reads
    (let walked = c.requires.ready.held.walked in walk-few c.args.at.now.q.now c.args.at.now.part.now c.args.at.now.arriving walked (omega (arith, c.requires.here, walked.plan.count))) c.walk.ensures.reads
