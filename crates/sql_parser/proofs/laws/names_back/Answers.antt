use Rattle.sql_parser.proofs.NamedAgain.{names_back}
use Rattle.sql_parser.proofs.laws.names_back.Goals as goal

pub returns : goal.returns
returns c = names_back
