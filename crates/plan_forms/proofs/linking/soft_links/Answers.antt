use Rattle.plan_forms.proofs.Softly.{soft_room}
use Rattle.plan_forms.proofs.linking.soft_links.Goals as goal

pub add_soft-requires : goal.add_soft-requires
add_soft-requires c = soft_room c.args.links.now c.links.i _ c.links.list.items c.links-test.true c.links.invariant c.requires
