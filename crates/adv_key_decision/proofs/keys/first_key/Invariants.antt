use Rattle.adv_key_decision.specs.Judged.{by_stream}
use Rattle.adv_key_decision.proofs.KeyPlaces.{NoneBefore}
use Rattle.adv_key_decision.proofs.keys.first_key.Given as goal

abbrev pub invariant-loop-place : goal.invariant-loop-place
invariant-loop-place l = NoneBefore l.q (by_stream l.choice) l.place
