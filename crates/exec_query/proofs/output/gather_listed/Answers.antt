use Rattle.exec_answer_lines.proofs.Gathering.{written_then}
use Rattle.exec_query.proofs.output.gather_listed.Goals as goal

pub returns-in-Ok-clause-gathers : goal.returns-in-Ok-clause-gathers
returns-in-Ok-clause-gathers g c =
    rw (c.put_listed.ensures.same, c.in-Ok.ensures.none)
    (written_then c.put_listed.result _ _ _ c.args.lines.now _ c.in-Ok.ensures.written c.put_listed.ensures.written)
