use Rattle.std.proofs.Common.{◌∙◌, arith}
use Rattle.sql_script.proofs.Gathering.{writes-flushed, flushed-later, gathered-part}
use Rattle.cmd_certify.proofs.certifying.print_flushed.Goals as goal

pub returns-in-Ok-clause-written : goal.returns-in-Ok-clause-written
returns-in-Ok-clause-written g c = writes-flushed c.flush.result _ _ _ _ _ _ _ _ _ c.requires c.in-Ok.ensures c.flush.ensures.flushes

pub returns-in-Ok-clause-later : goal.returns-in-Ok-clause-later
returns-in-Ok-clause-later g c = omega (arith, c.in-Ok.ensures.later.faults, flushed-later c.flush.result _ _ _ _ c.flush.ensures.flushes)

pub returns-in-Ok-clause-same_reference : goal.returns-in-Ok-clause-same_reference
returns-in-Ok-clause-same_reference g c = c.flush.ensures.same_reference ∙ c.in-Ok.ensures.later.below

pub returns-in-Err-clause-written : goal.returns-in-Err-clause-written
returns-in-Err-clause-written g c = gathered-part _ _ _ _ _ _ _ c.requires c.in-Err.ensures
