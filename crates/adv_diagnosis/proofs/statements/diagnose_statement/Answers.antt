use Rattle.std.proofs.Common.{◌≡◌, None, subst}
use Rattle.sql_parser.specs.declared.tree.Statement.{Statement}
use Rattle.sql_parser.specs.Limits.{limit_of}
use Rattle.sql_parser.proofs.Taken.{domains_have_ends}
use Rattle.adv_diagnosis.proofs.statements.diagnose_statement.Goals as goal

pub diagnose_stream-requires-clause-domains : goal.diagnose_stream-requires-clause-domains
diagnose_stream-requires-clause-domains c =
    let within = subst (λ (s : Statement). limit_of s ≡ None) c.in-CreateStream.is c.requires.within in
    domains_have_ends c.in-CreateStream.name c.in-CreateStream.columns.items within
