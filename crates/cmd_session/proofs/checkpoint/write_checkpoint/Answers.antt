use Rattle.std.proofs.Common.{sym, subst}
use Rattle.io_streams.specs.Sink.{BrokeOff, Writes}
use Rattle.io_streams.proofs.Writing.{BrokeOff-stop}
use Rattle.exec_snapshot.proofs.LineTexts.{writes_after}
use Rattle.cmd_session.proofs.LinesKept.{kept_text}
use Rattle.cmd_session.proofs.checkpoint.write_checkpoint.Goals as goal

pub returns-in-Ok-clause-lines : goal.returns-in-Ok-clause-lines
returns-in-Ok-clause-lines g c =
    subst (Writes c.write_kept.result (g.O.Sink.seen c.args.out.now) (g.O.Sink.seen c.write_kept.new.out)) (sym (kept_text c.args.catalog.now c.args.registry.now c.args.taken))
    (writes_after c.write_kept.result _ _ _ _ _ c.in-Ok.ensures c.write_kept.ensures.lines)

pub returns-in-Err-clause-lines : goal.returns-in-Err-clause-lines
returns-in-Err-clause-lines g c =
    subst (BrokeOff (g.O.Sink.seen c.args.out.now) (g.O.Sink.seen c.write_created.new.out)) (sym (kept_text c.args.catalog.now c.args.registry.now c.args.taken))
    (BrokeOff-stop _ _ _ _ c.in-Err.ensures)
