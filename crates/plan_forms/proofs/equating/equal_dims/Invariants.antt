use Rattle.plan_forms.specs.Equated.{AreBefore}
use Rattle.plan_forms.proofs.equating.equal_dims.Given as goal

abbrev pub invariant-streams : goal.invariant-streams
invariant-streams l = AreBefore l.closed l.streams l.place l.list.items
