use Rattle.std.proofs.Common.{pos, neg_ℤ, ◌≤ℤ◌, arith}
use Rattle.std.proofs.lemmas.Int.{ints}
use Rattle.plan_closure.proofs.Upper.{least_from, no_least_from}
use Rattle.plan_closure.proofs.bounds.Bounds.lo.Goals as goal

pub returns-in-Some-clause-answer : goal.returns-in-Some-clause-answer
returns-in-Some-clause-answer c =
    let s : (neg_ℤ (pos 100000000000000000) ≤ℤ c.in-Some.bound) × (c.in-Some.bound ≤ℤ pos 100000000000000000) = c.in-Some.ensures.small in
    least_from _ _ c.in-Some.bound _ (omega (arith, ints, s.0, s.1)) c.in-Some.ensures.answer

pub returns-in-None-clause-answer : goal.returns-in-None-clause-answer
returns-in-None-clause-answer c = no_least_from _ _ c.in-None.ensures.answer
