use Rattle.std.proofs.Common.{◌≡◌, None, subst}
use Rattle.sql_parser.specs.declared.tree.Statement.TheVariants.{CreateStream}
use Rattle.sql_parser.specs.Limits.{limit_of}
use Rattle.sql_parser.proofs.Taken.{domains_have_ends}
use Rattle.sql_script.proofs.creation.take_statement.Goals as goal

pub add_stream-requires-clause-domains : goal.add_stream-requires-clause-domains
add_stream-requires-clause-domains c =
    let within : limit_of (CreateStream c.in-CreateStream.name c.in-CreateStream.columns) ≡ None = subst (λ s. limit_of s ≡ None) c.in-CreateStream.is c.requires.within in
    rw c.as_slice.ensures.value (domains_have_ends c.in-CreateStream.name c.in-CreateStream.columns.items within)
