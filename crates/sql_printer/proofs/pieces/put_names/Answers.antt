use Rattle.std.proofs.Common.{map}
use Rattle.sql_parser.specs.Grammar.{comma, name_tokens}
use Rattle.sql_printer.specs.Pieces.{said}
use Rattle.sql_printer.proofs.PieceLists.{list_added}
use Rattle.sql_printer.proofs.pieces.put_names.Goals as goal

pub returns-in-len1-up-clause-tokens : goal.returns-in-len1-up-clause-tokens
returns-in-len1-up-clause-tokens c = list_added comma name_tokens c.args.names.now c.first-item.result (map said c.args.pieces.now.items) _ _ c.in-len1-up.len_at_least c.first-item.is c.put.ensures.tokens c.put_more_names.ensures.tokens
