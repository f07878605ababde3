-- How far a run is behind rows that were answered one after another.
use Rattle.std.proofs.Common.{ℕ, ◌++◌, List, sym, subst}
use Rattle.io_streams.specs.Sink.{SinkState}
use Rattle.io_streams.specs.Source.{SourceState}
use Rattle.io_line_reader.specs.Reading.{Reading}
use Rattle.exec_pool.specs.Counted.{StepsValue}
use Rattle.cmd_session.specs.AnsweredRows.{AnswersRows, no_row, row_more}
use Rattle.cmd_session.specs.declared.outcome.LineOutcome.TheVariants.{Done}
use Rattle.cmd_session.specs.Session.{SessionValue}
use Rattle.cmd_session.specs.State.{State}
use Rattle.cmd_session.proofs.Progress.{Progress, progress-line}
use Rattle.cmd_session.proofs.ToldEvents.{at}

-- rows more were answered, and are pending
pub progress-answered : (s : State) (source now : SourceState) (old : Reading) (k : SessionValue) (before below : SinkState) (held : List ℕ) (steps spent : StepsValue) (new : Reading) (kept : SessionValue) (after : SinkState) (full : List ℕ) (last : StepsValue)
    → Progress s source now old k before below held steps spent → AnswersRows old k now below held spent Done new kept after full last → Progress s source now new kept before after full steps last
progress-answered s source now old k before below held steps spent new kept after full last p (no_row h reader session a b n) =
    subst (λ (r : Reading). Progress s source now r kept before after full steps last) (sym reader)
    (subst (λ (x : SessionValue). Progress s source now old x before after full steps last) (sym session)
    (subst (λ (x : SinkState). Progress s source now old k before x full steps last) (sym a)
    (subst (λ (x : List ℕ). Progress s source now old k before below x steps last) (sym b) (subst (λ (x : StepsValue). Progress s source now old k before below held steps x) (sym n) p))))
progress-answered s source now old k before below held steps spent new kept after full last p (row_more reader left between part among h line takes) =
    let q = progress-answered s source now old k before below held steps spent reader left between part among p h in
    progress-line s source now now reader new left kept before between after part full steps among last q (line (at s (q.answered ++ q.pending)) q.stands) takes
