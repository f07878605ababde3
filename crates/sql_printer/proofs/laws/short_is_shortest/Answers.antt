use Rattle.sql_printer.proofs.Shortest.{short_is_shortest}
use Rattle.sql_printer.proofs.laws.short_is_shortest.Goals as goal

pub returns : goal.returns
returns c = short_is_shortest
