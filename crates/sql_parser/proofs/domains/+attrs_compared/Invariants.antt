use Rattle.std.proofs.Common.{length}
use Rattle.sql_parser.proofs.domains.+attrs_compared.Given as goal

abbrev pub decreases-attrs_compared : goal.decreases-attrs_compared
decreases-attrs_compared l = length l.atoms.now
