use Rattle.std.proofs.Common.{length}
use Rattle.sql_parser.proofs.domains.+named_attrs.Given as goal

abbrev pub decreases-named_attrs : goal.decreases-named_attrs
decreases-named_attrs l = length l.select.now
