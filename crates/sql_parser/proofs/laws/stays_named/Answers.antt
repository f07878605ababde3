use Rattle.sql_parser.proofs.Placed.{stays_named}
use Rattle.sql_parser.proofs.laws.stays_named.Goals as goal

pub returns : goal.returns
returns c = stays_named
