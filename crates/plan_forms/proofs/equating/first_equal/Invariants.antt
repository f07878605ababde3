use Rattle.std.proofs.Common.{take}
use Rattle.sem_query.specs.declared.atom.Attr.{Attr}
use Rattle.plan_forms.specs.Equated.{IsEqual, IsNamed}
use Rattle.plan_forms.proofs.equating.first_equal.Given as goal

abbrev pub invariant-dims : goal.invariant-dims
invariant-dims l = (b : Attr) → IsNamed (take l.i l.dims) b → ¬ IsEqual l.closed l.a b
