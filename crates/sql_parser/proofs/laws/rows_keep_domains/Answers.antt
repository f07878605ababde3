use Rattle.sql_parser.proofs.DomainRows.{rows_keep_domains}
use Rattle.sql_parser.proofs.laws.rows_keep_domains.Goals as goal

pub returns : goal.returns
returns c = rows_keep_domains
