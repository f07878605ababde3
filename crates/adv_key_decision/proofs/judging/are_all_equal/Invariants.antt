use Rattle.adv_key_decision.specs.Judged.{by_stream}
use Rattle.adv_key_decision.proofs.KeyPlaces.{EqualBefore}
use Rattle.adv_key_decision.proofs.judging.are_all_equal.Given as goal

abbrev pub invariant-loop-place : goal.invariant-loop-place
invariant-loop-place l = EqualBefore l.q (by_stream l.choice) l.a l.place
