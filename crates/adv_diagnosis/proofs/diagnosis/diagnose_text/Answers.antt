use Rattle.std.proofs.Common.{refl}
use Rattle.sql_printer.proofs.RoundTrip.{faults_are_none}
use Rattle.adv_diagnosis.specs.Asked.{outside, limited}
use Rattle.adv_diagnosis.proofs.Diagnoses.{found_statement}
use Rattle.adv_diagnosis.proofs.diagnosis.diagnose_text.Goals as goal

pub returns-in-Ok-clause-found : goal.returns-in-Ok-clause-found
returns-in-Ok-clause-found c =
    found_statement c.args.known.now.catalog.now c.args.known.now.live.now c.args.text.now c.in-Ok.statement c.diagnose_statement.result c.in-Ok.ensures.0 c.in-Ok.ensures.1 c.diagnose_statement.ensures.found

pub returns-in-Err-Syntax-clause-found : goal.returns-in-Err-Syntax-clause-found
returns-in-Err-Syntax-clause-found c =
    let fault = rw c.in-Err-Syntax.field-0-is at c.in-Err-Syntax.ensures in
    record { asked = outside (λ s is. faults_are_none c.args.text.now c.in-Err-Syntax.at s fault is) refl; facts = (fault, c.next_at.ensures) }

pub returns-in-Err-Limit-clause-found : goal.returns-in-Err-Limit-clause-found
returns-in-Err-Limit-clause-found c =
    let passed = rw c.in-Err-Limit.field-0-is at c.in-Err-Limit.ensures in
    record { asked = limited passed.0 c.in-Err-Limit.what passed.1 passed.2 refl; facts = (passed.0, passed.1, passed.2, c.found_of.ensures passed.0 passed.1 passed.2) }
