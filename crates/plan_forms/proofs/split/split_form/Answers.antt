use Rattle.sem_forms.specs.Parts as parts
use Rattle.plan_forms.proofs.split.split_form.Goals as goal

pub returns-in-None : goal.returns-in-None
returns-in-None c = parts.pairs c.requires.compact c.in-None.ensures
