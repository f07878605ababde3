use Rattle.std.proofs.Common.{rules, [], ◌∷◌, ◌++◌}
use Rattle.sql_catalog.specs.Streams.{Shape}
use Rattle.exec_snapshot.proofs.LineTexts.{wrote_more, broke_at}
use Rattle.cmd_session.specs.Checkpoint.{stream_line}
use Rattle.cmd_session.proofs.checkpoint.write_streams.Goals as goal

pub returns-in-Err : goal.returns-in-Err
returns-in-Err g c =
    broke_at (λ (x : Shape). stream_line x ++ 10 ∷ []) c.args.catalog.now c.loop-number.number (record { name = []; columns = [] }) _ _ _ (search rules) c.loop-number.invariant c.in-Err.ensures

pub loop-number-preserved : goal.loop-number-preserved
loop-number-preserved g c =
    wrote_more (λ (x : Shape). stream_line x ++ 10 ∷ []) c.args.catalog.now c.loop-number.number (record { name = []; columns = [] }) _ _ _ (search rules) c.loop-number.invariant c.in-Ok.ensures
