use Rattle.sem_whole.proofs.Signed.{signed_attrs}
use Rattle.sem_whole.proofs.laws.signed_attrs_are_the_same.Goals as goal

pub returns : goal.returns
returns c = signed_attrs
