use Rattle.std.proofs.Common.{◌≡◌, take}
use Rattle.std.specs.List.{sum_by}
use Rattle.plan_forms.specs.Placed.{cells_over, ArePlaced}
use Rattle.plan_forms.proofs.placing.placed.Given as goal

abbrev pub invariant-streams : goal.invariant-streams
invariant-streams l = ArePlaced l.is_alone 0 (take l.i l.streams) l.list.items × (l.next ≡ sum_by (λ s. cells_over l.is_alone s.dims.items) (take l.i l.streams))
