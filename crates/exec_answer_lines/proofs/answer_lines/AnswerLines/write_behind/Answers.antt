use Rattle.exec_answer_lines.proofs.Gathering.{written_then}
use Rattle.exec_answer_lines.proofs.answer_lines.AnswerLines.write_behind.Goals as goal

pub returns-in-Ok : goal.returns-in-Ok
returns-in-Ok g c =
    rw (c.write.ensures.same, c.in-Ok.ensures.none)
    (written_then c.write.result _ _ _ c.args.self.now _ c.in-Ok.ensures.written c.write.ensures.written)
