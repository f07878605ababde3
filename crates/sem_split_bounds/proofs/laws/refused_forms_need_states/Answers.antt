use Rattle.sem_split_bounds.proofs.Exact.{refused-forms-need-states}
use Rattle.sem_split_bounds.proofs.laws.refused_forms_need_states.Goals as goal

pub returns : goal.returns
returns c = refused-forms-need-states
