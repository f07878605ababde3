use Rattle.std.proofs.Common.{◌≡◌, ◌+◌, ◌≤◌, ◌++◌, take, map, length}
use Rattle.sem_query.specs.Plan.{link}
use Rattle.plan_links.proofs.links.push_row.Given as goal

abbrev pub invariant-loop-right : goal.invariant-loop-right
invariant-loop-right l = (length l.fn.list.items + length l.attrs ≤ 144) × (l.list.items ≡ l.fn.list.items ++ map (link l.left) (take l.right-index l.attrs))
