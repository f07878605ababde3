use Rattle.std.proofs.Common.{take, length, arith, ap}
use Rattle.std.proofs.lemmas.List.{length-take-le}
use Rattle.exec_answer_table.specs.Rows.{counts_for}
use Rattle.exec_answer_table.proofs.Numbers.{length-filter_le}
use Rattle.exec_answer_table.proofs.rows.list_due.Goals as goal

pub push_due-requires : goal.push_due-requires
push_due-requires c =
    let few = length-filter_le (counts_for c.args.counts.now) (take c.loop-i.i c.args.order.now.items) in
    let seen = length-take-le c.loop-i.i c.args.order.now.items (omega (arith, c.loop-i-test.true, c.len-i-end.ensures)) in
    let listed = ap length c.loop-i.invariant.due in
    let room = c.requires.room in
    omega (arith, few, seen, listed, room, c.loop-i.invariant.room, c.loop-i-test.true, c.len-i-end.ensures)
