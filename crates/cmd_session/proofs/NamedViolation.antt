-- The column that a violation names is a column of the query's streams.
use Rattle.std.proofs.Common.{List, Some}
use Rattle.sem_query.specs.Query.{QueryValue, IsWithinLimits}
use Rattle.sem_query.specs.Violation.{Failure}
use Rattle.sql_catalog.specs.Streams.{Shape}
use Rattle.sql_parser.specs.Resolution.{IsColumnOf, HasNamed}
use Rattle.sem_forms.specs.Parts as parted
use Rattle.sem_forms.specs.Parts.{IsFormViolation}
use Rattle.sql_replies.proofs.Named.{violation_is_named}
use Rattle.sql_explain.proofs.NamedBreaks.{split_violation_is_named}

pub form_violation_is_named : (streams : List Shape) (q : QueryValue) (f : Failure) → IsWithinLimits q → HasNamed streams q → IsFormViolation q (Some f) → IsColumnOf streams q.from f.attr
form_violation_is_named streams q f within h (parted.IsFormViolation.filter t e) = absurd cc
form_violation_is_named streams q f within h (parted.IsFormViolation.plain p c v) = violation_is_named streams q f h v
form_violation_is_named streams q f within h (parted.IsFormViolation.split p c v) = split_violation_is_named streams q f within h v
