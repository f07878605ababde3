use Rattle.plan_forms.specs.Equated.{AreStreams}
use Rattle.plan_forms.proofs.equating.add_stream.Given as goal

abbrev pub invariant-dims : goal.invariant-dims
invariant-dims l = AreStreams l.closed l.streams l.place l.fn.list.items l.k l.list.items
