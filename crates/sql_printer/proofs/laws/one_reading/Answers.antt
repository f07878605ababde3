use Rattle.sql_printer.proofs.ReadBack.{one_statement}
use Rattle.sql_printer.proofs.laws.one_reading.Goals as goal

pub returns : goal.returns
returns c = one_statement
