use Rattle.plan_layout.proofs.Once.{room_next, different_next}
use Rattle.plan_layout.proofs.selecting.different.Goals as goal

pub push_new-requires : goal.push_new-requires
push_new-requires c = room_next c.args.columns.now c.columns.list.items c.columns.i c.requires c.columns-test.true c.columns.invariant

pub columns-preserved : goal.columns-preserved
columns-preserved c = different_next c.args.columns.now c.columns.list.items _ c.columns.i _ c.columns-test.true c.columns.invariant c.push_new.ensures
