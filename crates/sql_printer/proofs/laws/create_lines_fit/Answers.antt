use Rattle.sql_printer.proofs.RoundTrip.{create_lines_fit}
use Rattle.sql_printer.proofs.laws.create_lines_fit.Goals as goal

pub returns : goal.returns
returns c = create_lines_fit
