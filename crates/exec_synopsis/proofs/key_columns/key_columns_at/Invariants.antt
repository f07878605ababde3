use Rattle.exec_synopsis.proofs.KeyColumnLaws.{SoPinned}
use Rattle.exec_synopsis.proofs.key_columns.key_columns_at.Given as goal

abbrev pub invariant-dims : goal.invariant-dims
invariant-dims l = SoPinned l.part l.arriving l.place l.dims l.key_columns.items l.dim-index
