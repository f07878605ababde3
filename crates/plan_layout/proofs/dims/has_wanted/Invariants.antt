use Rattle.std.proofs.Common.{All, take}
use Rattle.sem_query.specs.Query.{attrs_of}
use Rattle.plan_layout.specs.ColumnPlaces.{attr_at}
use Rattle.plan_layout.specs.Classes.{IsWantedMember}
use Rattle.plan_layout.proofs.dims.has_wanted.Given as goal

abbrev pub invariant-loop-j : goal.invariant-loop-j
invariant-loop-j l = All (λ m. ¬ IsWantedMember l.q l.p.signs.items (attr_at l.q l.i) m) (take l.j (attrs_of l.q.atoms))
