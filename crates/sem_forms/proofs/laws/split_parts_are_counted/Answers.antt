use Rattle.sem_forms.proofs.SplitOne.{split_parts_are_counted}
use Rattle.sem_forms.proofs.laws.split_parts_are_counted.Goals as goal

pub returns : goal.returns
returns c = split_parts_are_counted
