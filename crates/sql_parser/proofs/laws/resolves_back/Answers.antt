use Rattle.sql_parser.proofs.Resolved.{resolves_back}
use Rattle.sql_parser.proofs.laws.resolves_back.Goals as goal

pub returns : goal.returns
returns c = resolves_back
