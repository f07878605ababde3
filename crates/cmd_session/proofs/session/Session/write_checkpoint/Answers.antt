use Rattle.std.proofs.Common.{List, refl, subst, sym}
use Rattle.io_streams.specs.Sink.{Writes}
use Rattle.sql_catalog.specs.Streams.{Shape}
use Rattle.exec_snapshot.specs.Lines.{text_of_lines}
use Rattle.cmd_session.specs.CheckpointLines.{lines_kept}
use Rattle.cmd_session.specs.Answer.{plain}
use Rattle.cmd_session.specs.Request.{saved}
use Rattle.cmd_session.specs.Session.{SessionValue, StandsFor}
use Rattle.cmd_session.specs.State.{one_line_more}
use Rattle.cmd_session.proofs.Given.{given}
use Rattle.cmd_session.proofs.LinesKept.{lines_are}
use Rattle.cmd_session.proofs.session.Session.write_checkpoint.Goals as goal

pub returns-clause-reply : goal.returns-clause-reply
returns-clause-reply g c = λ s stands.
    let old = subst (λ (k : SessionValue). StandsFor k (one_line_more s)) (sym c.self.view_is) stands in
    given c.write_checkpoint-written.result c.outcome_of.result s saved (plain saved) _ _ _ c.outcome_of.ensures refl stands
    (subst (λ lines. Writes c.write_checkpoint-written.result (g.O.Sink.seen c.args.out.now) (g.O.Sink.seen c.write_checkpoint-written.new.out) (text_of_lines lines)) (lines_are _ (one_line_more s) old)
    (subst (λ (l : List Shape). Writes c.write_checkpoint-written.result (g.O.Sink.seen c.args.out.now) (g.O.Sink.seen c.write_checkpoint-written.new.out) (text_of_lines (lines_kept l c.self.inside.registry c.self.inside.taken)))
    c.all.ensures c.write_checkpoint-written.ensures.lines))
