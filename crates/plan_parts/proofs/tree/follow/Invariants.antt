use Rattle.std.proofs.Common.{◌≡◌, length}
use Rattle.plan_parts.specs.Tree.{Before, Follows}
use Rattle.plan_parts.proofs.tree.follow.Given as goal

abbrev pub invariant-loop-i : goal.invariant-loop-i
invariant-loop-i l = record {
  at : length l.signs.items ≡ l.i;
  before : Before l.q l.choices l.distances l.signs.items;
  follow : Follows l.q l.fn.signs.items l.signs.items;
}
