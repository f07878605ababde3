use Rattle.std.proofs.Common.{◌+◌, ◌*◌, ◌-◌, length}
use Rattle.plan_parts.proofs.tree.+walk.Given as goal

abbrev pub decreases-walk : goal.decreases-walk
decreases-walk l = 5 * (length l.choices.now - length l.signs.items) + 4

abbrev pub decreases-branches : goal.decreases-branches
decreases-branches l = 5 * (length l.choices.now - length l.signs.items) + 3

abbrev pub decreases-less_or_equal : goal.decreases-less_or_equal
decreases-less_or_equal l = 5 * (length l.choices.now - length l.signs.now) + 2

abbrev pub decreases-branch : goal.decreases-branch
decreases-branch l = 5 * (length l.choices.now - length l.signs.now) + 1

abbrev pub decreases-deeper : goal.decreases-deeper
decreases-deeper l = 5 * (length l.choices.now - length l.signs.items)

abbrev pub decreases-greater : goal.decreases-greater
decreases-greater l = 5 * (length l.choices.now - length l.signs.items) + 1
