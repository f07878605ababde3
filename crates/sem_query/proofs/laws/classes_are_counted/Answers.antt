use Rattle.sem_query.proofs.OneClass as OneClass
use Rattle.sem_query.proofs.laws.classes_are_counted.Goals as goal

pub returns : goal.returns
returns c = OneClass.classes_are_counted
