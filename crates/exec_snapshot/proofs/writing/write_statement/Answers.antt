use Rattle.exec_snapshot.proofs.LineTexts.{writes_after}
use Rattle.exec_snapshot.proofs.writing.write_statement.Goals as goal

pub returns-in-Ok : goal.returns-in-Ok
returns-in-Ok g c = writes_after c.write_all.result _ _ _ _ _ c.in-Ok.ensures c.write_all.ensures
