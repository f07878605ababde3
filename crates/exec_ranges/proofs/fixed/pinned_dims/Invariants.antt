use Rattle.sem_query.specs.Parts.{pairs}
use Rattle.std.proofs.Common.{length, map}
use Rattle.exec_synopsis.specs.declared.key_columns.KeyColumn.{KeyColumn}
use Rattle.exec_ranges.specs.Values.{value_in}
use Rattle.exec_synopsis.specs.Narrowing.{narrow}
use Rattle.exec_ranges.proofs.FixedLaws.{SoFixed}
use Rattle.exec_ranges.proofs.fixed.pinned_dims.Given as goal

abbrev pub invariant-key_columns : goal.invariant-key_columns
invariant-key_columns l = SoFixed (narrow l.at.arriving (length l.known) l.at.part.now.equal.items l.at.part.now.less.items (value_in (pairs l.at.q.now) l.at.part.now l.at.arriving l.at.row.now.items l.known)) (map (λ (p : KeyColumn). p.dim) l.key_column-items) l.dims.items l.key_column-index l.place
