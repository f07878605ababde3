use Rattle.std.proofs.Common.{All, take}
use Rattle.adv_key_choices.specs.declared.choice.KeyedQuery.{KeyedQuery}
use Rattle.adv_key_choices.specs.Choices.{keys_in, IsNoWorse}
use Rattle.adv_key_choices.proofs.order.are_no_worse.Given as goal

abbrev pub invariant-loop-i : goal.invariant-loop-i
invariant-loop-i l = All (λ (k : KeyedQuery). IsNoWorse k.query (keys_in l.c) (keys_in l.d)) (take l.i l.queries)
