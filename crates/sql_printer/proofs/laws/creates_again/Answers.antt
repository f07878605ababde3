use Rattle.sql_printer.proofs.RoundTrip.{creates_again}
use Rattle.sql_printer.proofs.laws.creates_again.Goals as goal

pub returns : goal.returns
returns c = creates_again
