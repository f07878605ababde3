use Rattle.std.proofs.Common.{Bool, subst, Some}
use Rattle.sem_query.specs.Query.{QueryValue}
use Rattle.adv_mends.specs.Numbered.{IsJudgement, shares}
use Rattle.adv_mends.proofs.judging.numbers_with.Goals as goal

pub returns-in_ok-judgement-in-Some : goal.returns-in_ok-judgement-in-Some
returns-in_ok-judgement-in-Some c = record {
  judgement = Some c.in_ok-judgement-in-Some.judgement;
  is =
      subst (λ (z : QueryValue). IsJudgement (shares c.args.mend.now c.args.shared) z c.in_ok-judgement-in-Some.judgement) c.in-Some.ensures
      (subst (λ (b : Bool). IsJudgement b c.in-Some.other c.in_ok-judgement-in-Some.judgement) c.shares.ensures c.in_ok-judgement-in-Some.ensures);
  are = c.accepted.ensures;
}
