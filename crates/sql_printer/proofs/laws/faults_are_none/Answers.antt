use Rattle.sql_printer.proofs.RoundTrip.{faults_are_none}
use Rattle.sql_printer.proofs.laws.faults_are_none.Goals as goal

pub returns : goal.returns
returns c = faults_are_none
