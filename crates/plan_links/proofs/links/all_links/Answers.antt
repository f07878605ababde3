use Rattle.plan_links.proofs.AllLinks.{room_for_row}
use Rattle.plan_links.proofs.links.all_links.Goals as goal

pub push_row-requires : goal.push_row-requires
push_row-requires c = room_for_row c.args.attrs.now c.loop-i.list.items c.loop-i.i c.loop-i-test.true c.requires c.loop-i.invariant
