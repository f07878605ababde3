use Rattle.exec_snapshot.proofs.LineTexts.{writes_end}
use Rattle.exec_snapshot.proofs.writing.write_query_line.Goals as goal

pub returns-in-Ok : goal.returns-in-Ok
returns-in-Ok g c = writes_end c.write_all.result _ _ _ _ c.in-Ok.ensures c.write_all.ensures
