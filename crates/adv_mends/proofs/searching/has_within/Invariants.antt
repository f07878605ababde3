use Rattle.std.proofs.Common.{All, take, List}
use Rattle.sem_query.specs.declared.atom.Attr.{Attr}
use Rattle.adv_mends.specs.Sublists.{IsSublist}
use Rattle.adv_mends.proofs.searching.has_within.Given as goal

abbrev pub invariant-loop-i : goal.invariant-loop-i
invariant-loop-i l = All (λ (set : List Attr). ¬ IsSublist set l.columns) (take l.i l.sets)
