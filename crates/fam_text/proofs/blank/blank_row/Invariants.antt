use Rattle.std.proofs.Common.{◌≡◌}
use Rattle.sem_query.specs.Cells.{upto}
use Rattle.sql_catalog.specs.Streams.{domain_at}
use Rattle.fam_text.specs.Blank.{least}
use Rattle.fam_text.proofs.blank.blank_row.Given as goal

abbrev pub invariant-loop-column : goal.invariant-loop-column
invariant-loop-column l = l.row.items ≡ upto (λ column. least (domain_at l.catalog l.stream column)) l.column
