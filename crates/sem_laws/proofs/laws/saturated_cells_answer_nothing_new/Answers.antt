use Rattle.sem_laws.proofs.Saturated.{saturated-cells-answer-nothing-new}
use Rattle.sem_laws.proofs.laws.saturated_cells_answer_nothing_new.Goals as goal

pub returns : goal.returns
returns c = saturated-cells-answer-nothing-new
