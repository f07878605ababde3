use Rattle.std.proofs.Common.{subst}
use Rattle.io_streams.specs.Sink.{Wrote, BrokeOff}
use Rattle.sql_printer.specs.Printed.{printed_form}
use Rattle.io_streams.proofs.Writing.{BrokeOff-stop}
use Rattle.exec_snapshot.proofs.LineTexts.{writes_after}
use Rattle.cmd_session.proofs.checkpoint.write_stream.Goals as goal

pub returns-in-Ok : goal.returns-in-Ok
returns-in-Ok g c =
    writes_after c.write_all.result _ _ _ _ _
    (subst (λ statement. Wrote (g.O.Sink.seen c.args.out.now) (g.O.Sink.seen c.print.new.out) (printed_form statement)) c.stream_statement-statement.ensures c.in-Ok.ensures) c.write_all.ensures

pub returns-in-Err : goal.returns-in-Err
returns-in-Err g c =
    BrokeOff-stop _ _ _ _ (subst (λ statement. BrokeOff (g.O.Sink.seen c.args.out.now) (g.O.Sink.seen c.print.new.out) (printed_form statement)) c.stream_statement-statement.ensures c.in-Err.ensures)
