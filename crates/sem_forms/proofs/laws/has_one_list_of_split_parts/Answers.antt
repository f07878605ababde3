use Rattle.sem_forms.proofs.SplitOne.{one_list_of_split_parts}
use Rattle.sem_forms.proofs.laws.has_one_list_of_split_parts.Goals as goal

pub returns : goal.returns
returns c = one_list_of_split_parts
