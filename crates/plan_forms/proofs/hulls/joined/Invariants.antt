use Rattle.std.proofs.Common.{◌≡◌, take}
use Rattle.plan_forms.specs.Hulls.{joined}
use Rattle.plan_forms.proofs.hulls.joined.Given as goal

abbrev pub invariant-columns : goal.invariant-columns
invariant-columns l = l.list.items ≡ joined l.before (take l.i l.dims)
