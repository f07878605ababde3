use Rattle.sem_query.specs.Parts.{pairs}
use Rattle.std.proofs.Common.{length}
use Rattle.exec_ranges.specs.Values.{value_in}
use Rattle.exec_synopsis.specs.Narrowing.{narrow}
use Rattle.exec_ranges.proofs.FixedLaws.{SoFixed}
use Rattle.exec_ranges.proofs.fixed.fixed_dims.Given as goal

abbrev pub invariant-dims : goal.invariant-dims
invariant-dims l = SoFixed (narrow l.at.arriving (length l.known) l.at.part.now.equal.items l.at.part.now.less.items (value_in (pairs l.at.q.now) l.at.part.now l.at.arriving l.at.row.now.items l.known)) l.dim-items l.dims.items l.dim-index l.place
