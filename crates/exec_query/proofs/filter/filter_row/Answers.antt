use Rattle.std.proofs.Common.{◌∙◌, sym}
use Rattle.sem_query.specs.Meaning.{Arrival}
use Rattle.exec_query.specs.Executor.{arrival}
use Rattle.exec_query.proofs.Named.{own_some, own_none, own_room, own_told, own_untold}
use Rattle.exec_query.proofs.filter.filter_row.Goals as goal

pub record_found-requires-clause-width : goal.record_found-requires-clause-width
record_found-requires-clause-width c =
    let r : Arrival = arrival c.args.stream c.args.row.now.items in
    (own_room c.args.q.now r c.filter_project.new.tuple.items c.args.table.now (own_told c.args.q.now r _ (sym c.is_answered.ensures ∙ c.if-not-is_answered.false) _ c.select.ensures.value c.filter_project.ensures) c.requires).0

pub record_found-requires-clause-room : goal.record_found-requires-clause-room
record_found-requires-clause-room c =
    let r : Arrival = arrival c.args.stream c.args.row.now.items in
    (own_room c.args.q.now r c.filter_project.new.tuple.items c.args.table.now (own_told c.args.q.now r _ (sym c.is_answered.ensures ∙ c.if-not-is_answered.false) _ c.select.ensures.value c.filter_project.ensures) c.requires).1

pub returns : goal.returns
returns c =
    let r : Arrival = arrival c.args.stream c.args.row.now.items in
    own_some c.args.q.now r c.filter_project.new.tuple.items c.distinct.result c.args.table.now c.record_found.new.table
    (own_told c.args.q.now r _ (sym c.is_answered.ensures ∙ c.if-not-is_answered.false) _ c.select.ensures.value c.filter_project.ensures) c.distinct.ensures c.record_found.ensures

pub returns-then-not-is_answered : goal.returns-then-not-is_answered
returns-then-not-is_answered c =
    let r : Arrival = arrival c.args.stream c.args.row.now.items in
    own_none c.args.q.now r c.args.table.now (own_untold c.args.q.now r (sym c.is_answered.ensures ∙ c.if-not-is_answered.true))
