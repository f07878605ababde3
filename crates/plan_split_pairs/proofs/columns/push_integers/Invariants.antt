use Rattle.std.proofs.Common.{◌≡◌, ◌+◌, ◌≤◌, ◌++◌, take, map, length}
use Rattle.sem_query.specs.declared.atom.Element.TheVariants as element
use Rattle.sem_query.specs.Parts.{pair}
use Rattle.plan_split_pairs.proofs.columns.push_integers.Given as goal

abbrev pub invariant-loop-integer : goal.invariant-loop-integer
invariant-loop-integer l = (length l.fn.list.items + length l.integers ≤ 68) × (l.list.items ≡ l.fn.list.items ++ map (λ k. pair l.attr (element.Const k)) (take l.integer-index l.integers))
