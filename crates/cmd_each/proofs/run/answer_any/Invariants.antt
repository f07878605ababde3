use Rattle.cmd_each.proofs.run.answer_any.Given as goal

abbrev pub ghosts-answer_closed : goal.ghosts-answer_closed
ghosts-answer_closed g a = record { bytes = (g.O.Sink.seen a.output.now).written; low = (g.O.Sink.seen a.output.now).below }
