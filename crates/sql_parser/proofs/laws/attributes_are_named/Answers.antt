use Rattle.sql_parser.proofs.NamedAttrs.{attributes_are_named}
use Rattle.sql_parser.proofs.laws.attributes_are_named.Goals as goal

pub returns : goal.returns
returns c = attributes_are_named
