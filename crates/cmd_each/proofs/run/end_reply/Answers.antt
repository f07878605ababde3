use Rattle.std.proofs.Common.{subst}
use Rattle.cmd_session.specs.Session.{Answered}
use Rattle.cmd_session.specs.declared.outcome.LineOutcome.{LineOutcome}
use Rattle.cmd_each.specs.declared.one_line.Last.TheVariants.{Nothing}
use Rattle.cmd_each.specs.OneLine.{one_line_seen}
use Rattle.cmd_each.proofs.ClosedLines.{closed-done, closed-end, closed-broke, closed-memory}
use Rattle.cmd_each.proofs.run.end_reply.Goals as goal

pub returns-in-Ok-clause-ends : goal.returns-in-Ok-clause-ends
returns-in-Ok-clause-ends g c = λ s line new first name is at told.
    closed-done g.B.Base.bytes g.B.Base.low _ s line new first _ _ name _ is at (subst (λ (o : LineOutcome). Answered o s line new (one_line_seen g.B.Base.bytes g.B.Base.low Nothing first name) (one_line_seen g.B.Base.bytes g.B.Base.low c.args.one.now.last (g.O.Sink.seen c.args.one.now.sink.now) c.args.one.now.sink.ghost_name)) c.in-Done.is told) c.in-Ok.ensures.closes

pub returns-in-Err-clause-ends : goal.returns-in-Err-clause-ends
returns-in-Err-clause-ends g c = λ s line new first name is at told.
    closed-end g.B.Base.bytes g.B.Base.low _ s line new first _ _ name _ is at (subst (λ (o : LineOutcome). Answered o s line new (one_line_seen g.B.Base.bytes g.B.Base.low Nothing first name) (one_line_seen g.B.Base.bytes g.B.Base.low c.args.one.now.last (g.O.Sink.seen c.args.one.now.sink.now) c.args.one.now.sink.ghost_name)) c.in-Done.is told) c.in-Err.ensures.closes

pub returns-in-WriteFault-clause-ends : goal.returns-in-WriteFault-clause-ends
returns-in-WriteFault-clause-ends g c = λ s line new first name is at told.
    closed-broke g.B.Base.bytes g.B.Base.low _ s line new first _ name _ is at (subst (λ (o : LineOutcome). Answered o s line new (one_line_seen g.B.Base.bytes g.B.Base.low Nothing first name) (one_line_seen g.B.Base.bytes g.B.Base.low c.args.one.now.last (g.O.Sink.seen c.args.one.now.sink.now) c.args.one.now.sink.ghost_name)) c.in-WriteFault.is told)

pub returns-in-Memory-clause-ends : goal.returns-in-Memory-clause-ends
returns-in-Memory-clause-ends g c = λ s line new first name is at told.
    closed-memory g.B.Base.bytes g.B.Base.low _ s line new first _ name _ is at (subst (λ (o : LineOutcome). Answered o s line new (one_line_seen g.B.Base.bytes g.B.Base.low Nothing first name) (one_line_seen g.B.Base.bytes g.B.Base.low c.args.one.now.last (g.O.Sink.seen c.args.one.now.sink.now) c.args.one.now.sink.ghost_name)) c.in-Memory.is told)
