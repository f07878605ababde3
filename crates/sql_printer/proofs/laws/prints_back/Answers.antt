use Rattle.sql_printer.proofs.RoundTrip.{prints_back}
use Rattle.sql_printer.proofs.laws.prints_back.Goals as goal

pub returns : goal.returns
returns c = prints_back
