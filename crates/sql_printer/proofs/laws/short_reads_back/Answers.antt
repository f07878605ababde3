use Rattle.sql_printer.proofs.RoundTrip.{short_reads_back}
use Rattle.sql_printer.proofs.laws.short_reads_back.Goals as goal

pub returns : goal.returns
returns c = short_reads_back
