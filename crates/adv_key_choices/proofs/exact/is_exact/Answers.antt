use Rattle.std.proofs.Common.{refl, sym, subst}
use Rattle.std.proofs.lemmas.List.Elements.{All-get_or}
use Rattle.plan_links.proofs.Gathered.{not_from}
use Rattle.adv_key_decision.specs.Judged.{AreTorn}
use Rattle.adv_key_choices.specs.declared.choice.KeyedQuery.{KeyedQuery}
use Rattle.adv_key_choices.specs.Choices.{keys_in, IsKeyed}
use Rattle.adv_key_choices.proofs.Listed.{one-more, all-of}
use Rattle.adv_key_choices.proofs.exact.is_exact.Goals as goal

pub is_torn-requires : goal.is_torn-requires
is_torn-requires c = subst IsKeyed (sym c.index-queries-i.is) (All-get_or IsKeyed c.args.queries.now c.loop-i.i _ c.loop-i-test.true c.requires)

pub loop-i-preserved : goal.loop-i-preserved
loop-i-preserved c =
    one-more (λ (k : KeyedQuery). ¬ AreTorn k.query (keys_in c.args.choice.now)) c.args.queries.now c.loop-i.i c.index-queries-i.result c.loop-i-test.true c.loop-i.invariant
    (subst (λ (k : KeyedQuery). ¬ AreTorn k.query (keys_in c.args.choice.now)) c.index-queries-i.is (not_from _ c.is_torn.ensures.1 c.if-is_torn.false))

pub returns-then-is_torn : goal.returns-then-is_torn
returns-then-is_torn c = (
  (λ h. cc),
  (λ e. absurd (e c.loop-i.i c.index-queries-i.result c.loop-i-test.true (subst (λ (k : KeyedQuery). AreTorn k.query (keys_in c.args.choice.now)) c.index-queries-i.is (c.is_torn.ensures.0 c.if-is_torn.true)))),
)

pub returns : goal.returns
returns c = ((λ h. all-of (λ (k : KeyedQuery). ¬ AreTorn k.query (keys_in c.args.choice.now)) c.args.queries.now c.loop-i.i c.loop-i-test.false c.loop-i.invariant), (λ e. refl))
