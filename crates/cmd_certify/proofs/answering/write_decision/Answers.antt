use Rattle.std.proofs.Common.{ℕ, List, sym, subst}
use Rattle.sem_query.specs.declared.decision.Decision.{Decision}
use Rattle.sql_parser.specs.Resolution.{IsColumnOf}
use Rattle.cmd_certify.specs.Judged.{IsDecided}
use Rattle.cmd_certify.proofs.NamedForms.{decided_is_named}
use Rattle.cmd_certify.proofs.answering.write_decision.Goals as goal

pub column_named-column-requires-clause-column : goal.column_named-column-requires-clause-column
column_named-column-requires-clause-column g c =
    let q = c.args.script.now.query in
    subst (λ (f : List ℕ). IsColumnOf c.args.script.now.catalog f c.in-Violation.attr) (sym c.from.ensures.value)
    (decided_is_named c.args.script.now.catalog q c.from.ensures.limits c.requires.named c.in-Violation.part c.in-Violation.condition c.in-Violation.attr c.args.parts
    (subst (λ (d : Decision). IsDecided q d c.args.parts) c.in-Violation.is c.requires.is))
