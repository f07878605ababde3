use Rattle.std.proofs.Common.{map, take}
use Rattle.plan_whole_form.specs.Part.{kept_dim}
use Rattle.sem_forms.specs.Part.{AreOwnDims}
use Rattle.plan_forms.proofs.own.own_dims.Given as goal

abbrev pub invariant-dims : goal.invariant-dims
invariant-dims l = AreOwnDims l.closed (map kept_dim (take l.i l.dims)) l.list.items
