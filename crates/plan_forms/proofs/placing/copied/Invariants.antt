use Rattle.std.proofs.Common.{◌≡◌, take}
use Rattle.plan_forms.proofs.placing.copied.Given as goal

abbrev pub invariant-loop-dim : goal.invariant-loop-dim
invariant-loop-dim l = l.copy.items ≡ take l.dim-index l.dims
