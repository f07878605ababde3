use Rattle.std.proofs.Common.{subst}
use Rattle.cmd_session.specs.declared.outcome.LineOutcome.{LineOutcome}
use Rattle.cmd_session.specs.Turned.{AnsweredLine, reply, behind}
use Rattle.cmd_session.proofs.one_turn.turn_of.Goals as goal

pub returns-in-Done-clause-turned : goal.returns-in-Done-clause-turned
returns-in-Done-clause-turned g c = λ s old new source now session session' below held line. subst (λ (o : LineOutcome). AnsweredLine o s old new source now session' below (g.O.Sink.seen c.args.output.now.sink.now) held c.args.output.now.held.items) c.in-Done.is line

pub returns-in-WriteFault-clause-turned : goal.returns-in-WriteFault-clause-turned
returns-in-WriteFault-clause-turned g c = λ s old new source now session session' below held line. reply (subst (λ (o : LineOutcome). AnsweredLine o s old new source now session' below (g.O.Sink.seen c.args.output.now.sink.now) held c.args.output.now.held.items) c.in-WriteFault.is line)

pub returns-in-Ok-clause-turned : goal.returns-in-Ok-clause-turned
returns-in-Ok-clause-turned g c = λ s old new source now session session' below held line. record { sink = _; full = _; lacks = subst (λ (o : LineOutcome). AnsweredLine o s old new source now session' below (g.O.Sink.seen c.args.output.now.sink.now) held c.args.output.now.held.items) c.in-Memory.is line; flushes = c.in-Ok.ensures.flushes.0 }

pub returns-in-Err-clause-turned : goal.returns-in-Err-clause-turned
returns-in-Err-clause-turned g c = λ s old new source now session session' below held line. behind (record { sink = _; full = _; lacks = subst (λ (o : LineOutcome). AnsweredLine o s old new source now session' below (g.O.Sink.seen c.args.output.now.sink.now) held c.args.output.now.held.items) c.in-Memory.is line; flushes = c.in-Err.ensures.flushes })
