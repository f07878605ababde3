use Rattle.std.proofs.Common.{take}
use Rattle.sem_query.specs.Query.{attrs_of}
use Rattle.sem_query.specs.Links.{IsMaxRef}
use Rattle.plan_links.specs.Sifting.{Sifts}
use Rattle.plan_links.proofs.reading.max_refs.Given as goal

abbrev pub invariant-loop-i : goal.invariant-loop-i
invariant-loop-i l = Sifts (IsMaxRef l.q l.p.signs.items) (take l.i (attrs_of l.q.atoms)) l.list.items
