use Rattle.io_streams.proofs.Writing.{BrokeOff-stop}
use Rattle.exec_snapshot.proofs.LineTexts.{writes_after}
use Rattle.cmd_session.proofs.checkpoint.write_kept.Goals as goal

pub returns-in-Ok-clause-lines : goal.returns-in-Ok-clause-lines
returns-in-Ok-clause-lines g c = writes_after c.write_states.result _ _ _ _ _ c.in-Ok.ensures c.write_states.ensures.lines

pub returns-in-Err-clause-lines : goal.returns-in-Err-clause-lines
returns-in-Err-clause-lines g c = BrokeOff-stop _ _ _ _ c.in-Err.ensures
