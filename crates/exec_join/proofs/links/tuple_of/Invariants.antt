use Rattle.sem_query.specs.Parts.{pairs}
use Rattle.std.proofs.Common.{◌≡◌, take, map}
use Rattle.exec_ranges.specs.Values.{value_in}
use Rattle.exec_join.proofs.links.tuple_of.Given as goal

abbrev pub invariant-selected : goal.invariant-selected
invariant-selected l = l.tuple.items ≡ map (value_in (pairs l.at.q.now) l.at.part.now l.at.arriving l.at.row.now.items l.known) (take l.a-index l.select)
