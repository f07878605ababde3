use Rattle.sem_query.specs.Parts.{pairs}
use Rattle.exec_ranges.specs.Values.{value_in}
use Rattle.std.proofs.Common.{length}
use Rattle.exec_synopsis.specs.Narrowing.{narrow}
use Rattle.exec_join.proofs.AlongLaws.{AreAlong}
use Rattle.exec_join.proofs.along.line_ahead.Given as goal

abbrev pub invariant-dims : goal.invariant-dims
invariant-dims l = AreAlong (narrow l.at.arriving (length l.known) l.at.part.now.equal.items l.at.part.now.less.items (value_in (pairs l.at.q.now) l.at.part.now l.at.arriving l.at.row.now.items l.known)) l.dim-items l.dim-index l.line
