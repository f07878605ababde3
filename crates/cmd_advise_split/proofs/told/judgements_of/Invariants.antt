use Rattle.std.proofs.Common.{take}
use Rattle.std.specs.List.{AllZip}
use Rattle.adv_key_decision.specs.Judged.{IsJudged}
use Rattle.adv_key_choices.specs.Choices.{keys_in}
use Rattle.cmd_advise_split.proofs.told.judgements_of.Given as goal

abbrev pub invariant-loop-i : goal.invariant-loop-i
invariant-loop-i l = AllZip (λ k how. IsJudged k.query (keys_in l.choice) how) (take l.i l.queries) l.judgements.items
