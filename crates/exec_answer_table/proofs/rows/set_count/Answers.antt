use Rattle.std.proofs.Common.{filter, length, get_or, arith, ap, sym, ◌∙◌, ◌*◌, ◌+◌, ◌≤◌}
use Rattle.exec_answer_table.specs.Rows.{counts_for}
use Rattle.exec_answer_table.proofs.Numbers.{filter_each}
use Rattle.exec_answer_table.proofs.Places.{ascend_rows}
use Rattle.exec_answer_table.proofs.Waiting.{ascends_filter, counted, not_counted, due_same, due_gained, due_room}
use Rattle.exec_answer_table.proofs.rows.set_count.Goals as goal

pub rank-i-requires-clause-inside : goal.rank-i-requires-clause-inside
rank-i-requires-clause-inside c =
    rw (c.requires.due)
    (filter_each (λ k. k * c.args.width + c.args.width ≤ length c.args.values.now) (counts_for c.args.counts.now) c.args.order.now.items c.requires.rows)

pub rank-i-requires-clause-ascending : goal.rank-i-requires-clause-ascending
rank-i-requires-clause-ascending c =
    rw (c.requires.due)
    (ascend_rows c.args.values.now c.args.counts.now (filter (counts_for c.args.counts.now) c.args.order.now.items) c.args.width
    (ascends_filter c.args.values.now c.args.counts.now c.args.width (counts_for c.args.counts.now) c.args.order.now.items c.requires.ascending))

pub returns-else-count-eq0-clause-due : goal.returns-else-count-eq0-clause-due
returns-else-count-eq0-clause-due c =
    let waited = counted (get_or c.args.counts.now (get_or c.args.order.now.items c.args.place 0) 0) (rw c.get-number.ensures at c.if-waited.true) in
    let some = counted c.args.count (omega (arith, c.if-count-eq0.false)) in
    c.requires.due
    ∙ due_same c.args.values.now c.args.counts.now c.args.order.now.items c.args.width c.args.place c.args.count c.requires.ascending c.requires.place (c.requires.counts c.args.place c.requires.place) (some ∙ sym waited)

pub insert-requires-clause-place : goal.insert-requires-clause-place
insert-requires-clause-place c =
    let is = rw (c.requires.due, c.row.ensures.row) at c.rank-i.ensures in
    rw c.requires.due is.within

pub insert-requires-clause-room : goal.insert-requires-clause-room
insert-requires-clause-room c =
    let waited = not_counted (get_or c.args.counts.now (get_or c.args.order.now.items c.args.place 0) 0) (rw c.get-number.ensures at c.if-waited.false) in
    let some = counted c.args.count c.if-count-gt0.true in
    let is = rw (c.requires.due, c.row.ensures.row, c.get-number.ensures) at c.rank-i.ensures in
    let few = due_room c.args.values.now c.args.counts.now c.args.order.now.items c.args.width c.args.place c.args.count c.rank-i.result c.requires.ascending c.requires.place (c.requires.counts c.args.place c.requires.place) waited some is in
    let l = ap length c.requires.due in
    let room = c.requires.room in
    omega (arith, few, l, room)

pub returns-then-count-gt0-clause-due : goal.returns-then-count-gt0-clause-due
returns-then-count-gt0-clause-due c =
    let waited = not_counted (get_or c.args.counts.now (get_or c.args.order.now.items c.args.place 0) 0) (rw c.get-number.ensures at c.if-waited.false) in
    let some = counted c.args.count c.if-count-gt0.true in
    let is = rw (c.requires.due, c.row.ensures.row, c.get-number.ensures) at c.rank-i.ensures in
    rw (c.insert.ensures.items, c.requires.due, c.get-number.ensures)
    (due_gained c.args.values.now c.args.counts.now c.args.order.now.items c.args.width c.args.place c.args.count c.rank-i.result c.requires.ascending c.requires.place (c.requires.counts c.args.place c.requires.place) waited some is)

pub returns-else-count-gt0-clause-due : goal.returns-else-count-gt0-clause-due
returns-else-count-gt0-clause-due c =
    let waited = not_counted (get_or c.args.counts.now (get_or c.args.order.now.items c.args.place 0) 0) (rw c.get-number.ensures at c.if-waited.false) in
    let none = not_counted c.args.count c.if-count-gt0.false in
    c.requires.due
    ∙ due_same c.args.values.now c.args.counts.now c.args.order.now.items c.args.width c.args.place c.args.count c.requires.ascending c.requires.place (c.requires.counts c.args.place c.requires.place) (none ∙ sym waited)
