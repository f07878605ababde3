use Rattle.std.proofs.Common.{◌≡◌}
use Rattle.sem_query.specs.Meaning.{by_column}
use Rattle.sem_query.specs.Cells.{upto}
use Rattle.fam_fooling_sets.specs.Members.{cell_for}
use Rattle.fam_fooling_sets.proofs.point.row_at.Given as goal

abbrev pub invariant-loop-column : goal.invariant-loop-column
invariant-loop-column l =
    l.row.items ≡ upto (λ column. cell_for l.point.ground.now.attrs.now l.point.values.now l.point.ground.now.named l.point.value (record { stream = l.place; column = column }) (by_column l.blank column)) l.column
