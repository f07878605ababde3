use Rattle.std.proofs.Common.{map}
use Rattle.sql_parser.specs.Grammar.{comma, column_tokens}
use Rattle.sql_printer.specs.Pieces.{said}
use Rattle.sql_printer.proofs.PieceLists.{list_added}
use Rattle.sql_printer.proofs.pieces.put_columns.Goals as goal

pub returns-in-len1-up-clause-tokens : goal.returns-in-len1-up-clause-tokens
returns-in-len1-up-clause-tokens c = list_added comma column_tokens c.args.columns.now c.first-item.result (map said c.args.pieces.now.items) _ _ c.in-len1-up.len_at_least c.first-item.is c.put_column.ensures.tokens c.put_more_columns.ensures.tokens
