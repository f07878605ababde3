use Rattle.std.proofs.Common.{◌≡◌, ◌≤◌, ◌++◌, drop, length}
use Rattle.sem_query.specs.Parts.{pairs_among}
use Rattle.sem_query.proofs.query.add_pairs.Given as goal

abbrev pub invariant-loop-i : goal.invariant-loop-i
invariant-loop-i l = (length (l.fn.list.items ++ pairs_among l.attrs l.consts) ≤ 114)
    × (l.list.items ++ pairs_among (drop l.i l.attrs) l.consts ≡ l.fn.list.items ++ pairs_among l.attrs l.consts)
