use Rattle.plan_layout.specs.Drafts.{AreSet}
use Rattle.plan_layout.proofs.draft.streams.Given as goal

abbrev pub invariant-places : goal.invariant-places
invariant-places l = AreSet l.q l.p.signs.items l.first l.place l.next l.list.items
