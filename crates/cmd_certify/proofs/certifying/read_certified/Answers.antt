use Rattle.cmd_certify.specs.Certifying.{Certifies}
use Rattle.cmd_certify.specs.Certifying as certifying
use Rattle.std.proofs.Common.{refl}
use Rattle.sql_script.proofs.Endings.{stops-early}
use Rattle.cmd_certify.proofs.OneCertified.{certifies-alike}
use Rattle.cmd_certify.proofs.certifying.read_certified.Goals as goal

pub returns-in-Ok-clause-reads : goal.returns-in-Ok-clause-reads
returns-in-Ok-clause-reads g c = c.certify_script.ensures.reads _ c.in-Ok.ensures.reads

pub returns-in-Err-clause-reads : goal.returns-in-Err-clause-reads
returns-in-Err-clause-reads g c = stops-early Certifies (λ all number word is. certifying.early number word is refl) certifies-alike c.in-Err.end _ _ _ c.in-Err.ensures.reads
