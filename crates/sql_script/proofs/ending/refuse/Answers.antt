use Rattle.std.proofs.Common.{refl}
use Rattle.sql_script.proofs.Endings.{front-written}
use Rattle.sql_script.proofs.ending.refuse.Goals as goal

pub returns-in-Ok-clause-ends : goal.returns-in-Ok-clause-ends
returns-in-Ok-clause-ends g c = (refl, c.in-Ok.ensures.bytes)

pub returns-in-Err-clause-ends : goal.returns-in-Err-clause-ends
returns-in-Err-clause-ends g c = front-written _ _ _ c.in-Err.ensures
