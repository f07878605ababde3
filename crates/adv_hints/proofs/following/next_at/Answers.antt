use Rattle.std.proofs.Common.{arith, rules}
use Rattle.adv_hints.specs.declared.candidates.TheConstants.{ALL}
use Rattle.adv_hints.proofs.MoreNext.{nothing_yet, one_more}
use Rattle.adv_hints.proofs.following.next_at.Goals as goal

pub loop-candidate-init : goal.loop-candidate-init
loop-candidate-init c = record { so_far = nothing_yet c.front_of-front.result.now c.new-next.result.items (search rules); room = search rules }

pub loop-candidate-preserved : goal.loop-candidate-preserved
loop-candidate-preserved c = record {
  so_far = rw (c.put_where.ensures.items) (one_more c.front_of-front.result.now ALL c.loop-candidate.next.items c.loop-candidate.candidate-index _ c.may_stand.result c.loop-candidate-test.true c.loop-candidate.invariant.so_far c.may_stand.ensures);
  room = omega (arith, c.put_where.ensures.short, c.loop-candidate.invariant.room);
}
