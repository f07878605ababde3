use Rattle.cmd_each.proofs.run.answer.Given as goal

abbrev pub ghosts-answer_exchanged : goal.ghosts-answer_exchanged
ghosts-answer_exchanged g a = record { bytes = (g.O.Sink.seen a.output.now).written; low = (g.O.Sink.seen a.output.now).below }
