use Rattle.std.proofs.Common.{◌≡◌, ◌+◌, ◌≤◌, ◌++◌, take, map, length}
use Rattle.sem_query.specs.declared.atom.Element.TheVariants as element
use Rattle.sem_query.proofs.query.push_consts.Given as goal

abbrev pub invariant-loop-k : goal.invariant-loop-k
invariant-loop-k l = (length l.fn.list.items + length l.consts ≤ 114) × (l.list.items ≡ l.fn.list.items ++ map (λ k. record { left = l.attr; right = element.Const k }) (take l.k-index l.consts))
