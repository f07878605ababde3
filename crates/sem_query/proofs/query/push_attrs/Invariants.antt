use Rattle.std.proofs.Common.{◌≡◌, ◌+◌, ◌≤◌, ◌++◌, drop, map, filter, length}
use Rattle.sem_query.specs.declared.atom.Element.TheVariants as element
use Rattle.sem_query.specs.Parts.{same_stream}
use Rattle.sem_query.proofs.query.push_attrs.Given as goal

abbrev pub invariant-loop-j : goal.invariant-loop-j
invariant-loop-j l = (length l.list.items + length (filter (same_stream l.attr) (drop l.j l.attrs)) ≤ 114)
    × (l.list.items ++ map (λ b. record { left = l.attr; right = element.Attr b }) (filter (same_stream l.attr) (drop l.j l.attrs)) ≡ l.fn.list.items ++ map (λ b. record { left = l.attr; right = element.Attr b }) (filter (same_stream l.attr) (drop l.from l.attrs)))
