use Rattle.plan_motion.proofs.Motion.{other_way}
use Rattle.plan_motion.proofs.moving.moves_by_tests.Goals as goal

pub returns-else-has_open_selected : goal.returns-else-has_open_selected
returns-else-has_open_selected c = other_way c.has_open_selected.result c.moves_between.result c.has_open_selected.ensures c.if-has_open_selected.false c.moves_between.ensures
