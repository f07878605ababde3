use Rattle.sem_query.specs.Parts.{pairs}
use Rattle.std.proofs.Common.{◌≡◌, take, map, length}
use Rattle.exec_ranges.specs.Values.{value_in}
use Rattle.exec_synopsis.specs.Narrowing.{narrow}
use Rattle.exec_ranges.proofs.narrow.narrowed_dims.Given as goal

abbrev pub invariant-dims : goal.invariant-dims
invariant-dims l = l.dims.items ≡ map (narrow l.at.arriving (length l.known) l.at.part.now.equal.items l.at.part.now.less.items (value_in (pairs l.at.q.now) l.at.part.now l.at.arriving l.at.row.now.items l.known)) (take l.d-index l.d-items)
