use Rattle.plan_motion.proofs.Motion.{other_way}
use Rattle.plan_motion.proofs.moving.moves_with_columns.Goals as goal

pub returns-else-moves_with_left : goal.returns-else-moves_with_left
returns-else-moves_with_left c = other_way c.moves_with_left.result c.moves_with_right.result c.moves_with_left.ensures c.if-moves_with_left.false c.moves_with_right.ensures
