use Rattle.std.proofs.Common.{rules}
use Rattle.exec_snapshot.proofs.StateLines.{broke_tuple}
use Rattle.exec_snapshot.proofs.writing.write_tuples.Goals as goal

pub returns-in-Err : goal.returns-in-Err
returns-in-Err g c =
    broke_tuple c.args.kept.now.query.distinct c.printed-number-end.result c.args.name.now c.args.kept.now.table.entries c.loop-number.number c.tuple.result.items _ _ _ c.printed-number-end.ensures
    (search rules) c.tuple.ensures c.loop-number.invariant c.in-Err.ensures
