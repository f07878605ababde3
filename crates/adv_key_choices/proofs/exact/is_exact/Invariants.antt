use Rattle.std.proofs.Common.{All, take}
use Rattle.adv_key_decision.specs.Judged.{AreTorn}
use Rattle.adv_key_choices.specs.declared.choice.KeyedQuery.{KeyedQuery}
use Rattle.adv_key_choices.specs.Choices.{keys_in}
use Rattle.adv_key_choices.proofs.exact.is_exact.Given as goal

abbrev pub invariant-loop-i : goal.invariant-loop-i
invariant-loop-i l = All (λ (k : KeyedQuery). ¬ AreTorn k.query (keys_in l.choice)) (take l.i l.queries)
