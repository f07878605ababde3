use Rattle.std.proofs.KnownBytes.{Keeps-refl}
use Rattle.cmd_certify.specs.Certifying.{Certifies}
use Rattle.cmd_certify.specs.Certified.{ends_with}
use Rattle.sql_script.proofs.Endings.{finishes, stops}
use Rattle.cmd_certify.proofs.certifying.certify.Goals as goal

pub returns-in_default-clause-ends : goal.returns-in_default-clause-ends
returns-in_default-clause-ends g c = Keeps-refl _

pub returns-in-Ok-read_certified-clause-ends : goal.returns-in-Ok-read_certified-clause-ends
returns-in-Ok-read_certified-clause-ends g c =
    let found = c.in-Ok-read_certified.certified in
    finishes Certifies (ends_with found.script found.certificate) c.end_done.result _ _ _ _ tt c.in-Ok-read_certified.ensures.reads c.end_done.ensures.ends

pub returns-clause-ends : goal.returns-clause-ends
returns-clause-ends g c = stops Certifies c.in-Err.end c.end_early.result _ _ _ _ c.in-Err.ensures.reads c.end_early.ensures.ends
