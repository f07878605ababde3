use Rattle.std.proofs.Common.{◌∙◌, List, [], ◌∷◌, ap, sym}
use Rattle.sem_query.specs.Combinations.{read_from, Found}
use Rattle.sem_query.specs.Meaning.{by_column}
use Rattle.sem_query.specs.Probing.{found_beside}
use Rattle.exec_pool.specs.Extents.{cells_of}
use Rattle.exec_join.specs.Remaining.{as_found}
use Rattle.exec_query.proofs.TableLaws.{found_same}
use Rattle.exec_query.proofs.InPart.{none_added, one_added}
use Rattle.exec_query.proofs.part.answer_and_put.Goals as goal
use Rattle.exec_query.proofs.part.answer_and_put.Goals.{in-Nothing, in-One, in-Unknown}

pub returns-in-Some-clause-table : goal.returns-in-Some-clause-table
returns-in-Some-clause-table g c =
    let d = c.args.at.now.q.now.distinct in
    let all : List Found = found_beside c.args.at.now.q.now c.args.at.now.part.now (read_from (cells_of c.args.pool.now c.args.e.now)) c.args.at.now.arriving (by_column c.args.at.now.row.now.items) in
    elim c.match-first_look.branch [
      | in-Nothing w ↦ w.table-is ∙ none_added d all c.args.table.now w.in-Nothing.ensures.found
      | in-One w ↦ (
          let f : Found = as_found c.first_look.new.tuple.items w.from.result in
          w.table-is ∙ one_added d f all c.args.table.now w.record_found.new.table (w.in-One.ensures.found ∙ ap (λ n. as_found c.first_look.new.tuple.items n ∷ []) (sym w.from.ensures))
          (found_same w.distinct.result d f c.args.table.now w.record_found.new.table w.distinct.ensures w.record_found.ensures))
      | in-Unknown w ↦ w.table-is ∙ w.look_then_walk.ensures.table
    ]

pub returns-in-None-clause-table : goal.returns-in-None-clause-table
returns-in-None-clause-table g c =
    let d = c.args.at.now.q.now.distinct in
    let all : List Found = found_beside c.args.at.now.q.now c.args.at.now.part.now (read_from (cells_of c.args.pool.now c.args.e.now)) c.args.at.now.arriving (by_column c.args.at.now.row.now.items) in
    elim c.match-first_look.branch [
      | in-Nothing w ↦ w.table-is ∙ none_added d all c.args.table.now w.in-Nothing.ensures.found
      | in-One w ↦ (
          let f : Found = as_found c.first_look.new.tuple.items w.from.result in
          w.table-is ∙ one_added d f all c.args.table.now w.record_found.new.table (w.in-One.ensures.found ∙ ap (λ n. as_found c.first_look.new.tuple.items n ∷ []) (sym w.from.ensures))
          (found_same w.distinct.result d f c.args.table.now w.record_found.new.table w.distinct.ensures w.record_found.ensures))
      | in-Unknown w ↦ w.table-is ∙ w.look_then_walk.ensures.table
    ]
