use Rattle.exec_synopsis.proofs.Inserting.{insert-takes-row}
use Rattle.exec_synopsis.proofs.laws.insert_takes_row.Goals as goal

pub returns : goal.returns
returns c = insert-takes-row
