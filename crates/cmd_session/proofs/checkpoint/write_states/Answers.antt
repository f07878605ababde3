use Rattle.std.proofs.Common.{◌<◌, length, rules, ◌∙◌}
use Rattle.exec_snapshot.specs.Lines.{text_of_lines}
use Rattle.exec_registry.specs.Live.{Live}
use Rattle.cmd_session.specs.CheckpointLines.{live_lines}
use Rattle.cmd_session.proofs.LinesKept.{wrote_place, broke_place, read_place, read_front}
use Rattle.cmd_session.proofs.checkpoint.write_states.Goals as goal

pub returns-in-Err-clause-lines : goal.returns-in-Err-clause-lines
returns-in-Err-clause-lines g c =
    broke_place (λ (x : Live). text_of_lines (live_lines c.args.registry.now.pool x)) c.args.registry.now.live c.loop-place.place _ _ _ (search rules) c.loop-place.invariant.lines c.in-Err.ensures.lines

pub returns-in-Err-clause-reads : goal.returns-in-Err-clause-reads
returns-in-Err-clause-reads g c =
    let there : c.loop-place.place < length c.args.registry.now.live = search rules in
    read_front c.args.registry.now.live c.loop-place.place _ _ there
    (read_place c.args.registry.now.live c.loop-place.place _ _ _ there c.loop-place.invariant.reads c.write_state_at.ensures.reads)

pub loop-place-preserved : goal.loop-place-preserved
loop-place-preserved g c =
    let there : c.loop-place.place < length c.args.registry.now.live = search rules in
    record {
      lines = wrote_place (λ (x : Live). text_of_lines (live_lines c.args.registry.now.pool x)) c.args.registry.now.live c.loop-place.place _ _ _ there c.loop-place.invariant.lines c.in-Ok.ensures.lines;
      reads = read_place c.args.registry.now.live c.loop-place.place _ _ _ there c.loop-place.invariant.reads c.write_state_at.ensures.reads;
      writes = c.write_state_at.ensures.writes ∙ c.loop-place.invariant.writes;
    }
