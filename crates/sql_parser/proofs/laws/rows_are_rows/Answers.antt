use Rattle.sql_parser.proofs.RowText.{rows_are_rows}
use Rattle.sql_parser.proofs.laws.rows_are_rows.Goals as goal

pub returns : goal.returns
returns c = rows_are_rows
