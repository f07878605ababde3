use Rattle.sql_parser.proofs.Taken.{domains_have_ends}
use Rattle.sql_parser.proofs.laws.domains_have_ends.Goals as goal

pub returns : goal.returns
returns c = domains_have_ends
