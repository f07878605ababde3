use Rattle.std.proofs.Common.{take}
use Rattle.std.specs.List.{AllZip}
use Rattle.sem_query.specs.Query.{attrs_of}
use Rattle.plan_links.specs.Refs.{IsRange}
use Rattle.plan_links.proofs.reading.ranges.Given as goal

abbrev pub invariant-loop-i : goal.invariant-loop-i
invariant-loop-i l = AllZip (IsRange l.q l.p.signs.items) (take l.i (attrs_of l.q.atoms)) l.list.items
