use Rattle.sql_parser.proofs.NamedAgain.{names_stay}
use Rattle.sql_parser.proofs.laws.names_stay.Goals as goal

pub returns : goal.returns
returns c = names_stay
