use Rattle.std.proofs.Common.{All, take}
use Rattle.sem_query.specs.declared.atom.Attr.{Attr}
use Rattle.adv_key_decision.specs.Equal.{AreSeenEqual}
use Rattle.adv_key_decision.proofs.judging.is_selected.Given as goal

abbrev pub invariant-loop-i : goal.invariant-loop-i
invariant-loop-i l = All (λ (b : Attr). ¬ AreSeenEqual l.q l.a b) (take l.i l.q.select)
