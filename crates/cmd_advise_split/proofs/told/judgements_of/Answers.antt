use Rattle.std.proofs.Common.{refl, sym, subst}
use Rattle.std.proofs.lemmas.List.Elements.{All-get_or}
use Rattle.plan_closure.proofs.Zips.{zip_more_at}
use Rattle.adv_key_decision.specs.Judged.{IsJudged}
use Rattle.adv_key_choices.specs.declared.choice.KeyedQuery.{KeyedQuery}
use Rattle.adv_key_choices.specs.Choices.{keys_in, IsKeyed}
use Rattle.cmd_advise_split.proofs.told.judgements_of.Goals as goal

pub judgement_of-requires : goal.judgement_of-requires
judgement_of-requires c = subst IsKeyed (sym c.index-queries-i.is) (All-get_or IsKeyed c.args.queries.now c.loop-i.i _ c.loop-i-test.true c.requires)

pub loop-i-preserved : goal.loop-i-preserved
loop-i-preserved c =
    zip_more_at (λ (k : KeyedQuery) how. IsJudged k.query (keys_in c.args.choice.now) how) c.args.queries.now c.args.queries.now _ _ c.loop-i.i c.index-queries-i.result _ refl c.loop-i-test.true c.loop-i.invariant
    (subst (λ (k : KeyedQuery). IsJudged k.query (keys_in c.args.choice.now) c.judgement_of.result) c.index-queries-i.is c.judgement_of.ensures) c.in_ok-push_judgement.ensures
