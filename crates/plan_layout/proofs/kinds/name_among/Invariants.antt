use Rattle.std.proofs.Common.{All, take}
use Rattle.sem_query.specs.Query.{attrs_of}
use Rattle.plan_layout.specs.Classes.{IsNameAmong}
use Rattle.plan_layout.proofs.kinds.name_among.Given as goal

abbrev pub invariant-loop-i : goal.invariant-loop-i
invariant-loop-i l = All (λ m. ¬ IsNameAmong l.q l.p.signs.items l.columns l.place m) (take l.i (attrs_of l.q.atoms))
