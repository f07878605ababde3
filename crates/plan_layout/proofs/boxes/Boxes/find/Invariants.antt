use Rattle.std.proofs.Common.{length}
use Rattle.plan_layout.specs.Boxed.{boxed}
use Rattle.plan_layout.specs.Listed.{box_in}
use Rattle.plan_layout.proofs.Listing.{AreLooked}
use Rattle.plan_layout.proofs.boxes.Boxes.find.Given as goal

abbrev pub invariant-chain : goal.invariant-chain
invariant-chain l = AreLooked l.q (boxed l.q 0 l.parts) l.self.entries.items (length l.self.lasts.items) (box_in (boxed l.q 0 l.parts) l.part l.place) l.number

abbrev pub decreases-chain : goal.decreases-chain
decreases-chain l = l.number
