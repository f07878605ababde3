use Rattle.std.proofs.Common.{rules, [], ◌∷◌, ◌++◌}
use Rattle.exec_registry.specs.Live.{Live}
use Rattle.cmd_session.specs.CheckpointLines.{live_line}
use Rattle.cmd_session.proofs.LinesKept.{wrote_place, broke_place}
use Rattle.cmd_session.proofs.checkpoint.write_queries.Goals as goal

pub returns-in-Err : goal.returns-in-Err
returns-in-Err g c =
    broke_place (λ (x : Live). live_line c.args.catalog.now x ++ 10 ∷ []) c.args.registry.now.live c.loop-place.place _ _ _ (search rules) c.loop-place.invariant c.in-Err.ensures

pub loop-place-preserved : goal.loop-place-preserved
loop-place-preserved g c =
    wrote_place (λ (x : Live). live_line c.args.catalog.now x ++ 10 ∷ []) c.args.registry.now.live c.loop-place.place _ _ _ (search rules) c.loop-place.invariant c.in-Ok.ensures
