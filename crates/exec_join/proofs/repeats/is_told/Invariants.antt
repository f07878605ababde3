use Rattle.sem_query.specs.Parts.{pairs}
use Rattle.std.proofs.Common.{◌≡◌, drop, length, map, take}
use Rattle.std.specs.List.{list_all}
use Rattle.sem_query.specs.Probing.{is_known}
use Rattle.exec_ranges.specs.Values.{value_in}
use Rattle.exec_join.proofs.repeats.is_told.Given as goal

abbrev pub invariant-columns : goal.invariant-columns
invariant-columns l = list_all (is_known l.at.arriving (length l.known)) l.columns ≡ list_all (is_known l.at.arriving (length l.known)) (drop l.column-index l.columns)

abbrev pub invariant-values : goal.invariant-values
invariant-values l = map (value_in (pairs l.at.q.now) l.at.part.now l.at.arriving l.at.row.now.items l.known) (take l.i l.columns) ≡ take l.i l.values
