use Rattle.std.proofs.Common.{◌+◌, ◌*◌, ◌-◌, length}
use Rattle.cert_maker.proofs.tree.+walk.Given as goal

abbrev pub decreases-walk : goal.decreases-walk
decreases-walk l = 3 * (length l.branches.now.pairs.now - length l.signs.now) + 2

abbrev pub decreases-split : goal.decreases-split
decreases-split l = 3 * (length l.branches.now.pairs.now - length l.signs.now) + 1

abbrev pub decreases-subtree : goal.decreases-subtree
decreases-subtree l = 3 * (length l.branches.now.pairs.now - length l.signs.now)
