use Rattle.std.proofs.Common.{refl}
use Rattle.cmd_certify.proofs.Checks.{ends-early, ends-behind, ends-whole}
use Rattle.cmd_certify.proofs.checking.read_answer.Goals as goal

pub returns-in-Ok-read_certificate-clause-reads : goal.returns-in-Ok-read_certificate-clause-reads
returns-in-Ok-read_certificate-clause-reads g c =
    let script = c.in-Ok.ensures.reads in
    ends-whole c.in-Ok.script _ _ _ _ c.in-Ok-read_certificate.certificate c.check-answer.result _ script
    (c.in-Ok-read_certificate.ensures.reads _ _ _ script.lines) c.check-answer.ensures refl

pub returns-in-Err-read_certificate-clause-reads : goal.returns-in-Err-read_certificate-clause-reads
returns-in-Err-read_certificate-clause-reads g c =
    let script = c.in-Ok.ensures.reads in
    ends-behind c.in-Ok.script _ _ _ _ c.in-Err-read_certificate.end script (c.in-Err-read_certificate.ensures.reads _ _ _ script.lines)

pub returns-in-Err-clause-reads : goal.returns-in-Err-clause-reads
returns-in-Err-clause-reads g c = ends-early _ _ _ c.in-Err.end c.in-Err.ensures.reads
