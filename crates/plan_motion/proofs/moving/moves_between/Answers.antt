use Rattle.plan_motion.proofs.Motion.{other_way}
use Rattle.plan_motion.proofs.moving.moves_between.Goals as goal

pub returns-else-has_open_counted : goal.returns-else-has_open_counted
returns-else-has_open_counted c = other_way c.has_open_counted.result c.has_two_moving.result c.has_open_counted.ensures c.if-has_open_counted.false c.has_two_moving.ensures
