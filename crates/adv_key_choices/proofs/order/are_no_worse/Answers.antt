use Rattle.std.proofs.Common.{◌≡◌, true, false, refl, sym, subst}
use Rattle.std.proofs.lemmas.List.Elements.{All-get_or}
use Rattle.adv_key_choices.specs.declared.choice.KeyedQuery.{KeyedQuery}
use Rattle.adv_key_choices.specs.Choices.{keys_in, IsKeyed, IsNoWorse}
use Rattle.adv_key_choices.proofs.Listed.{one-more, all-of}
use Rattle.adv_key_choices.proofs.order.are_no_worse.Goals as goal

pub is_no_worse-requires : goal.is_no_worse-requires
is_no_worse-requires c = subst IsKeyed (sym c.index-queries-i.is) (All-get_or IsKeyed c.args.queries.now c.loop-i.i _ c.loop-i-test.true c.requires)

pub loop-i-preserved : goal.loop-i-preserved
loop-i-preserved c =
    one-more (λ (k : KeyedQuery). IsNoWorse k.query (keys_in c.args.c.now) (keys_in c.args.d.now)) c.args.queries.now c.loop-i.i c.index-queries-i.result c.loop-i-test.true c.loop-i.invariant
    (subst (λ (k : KeyedQuery). IsNoWorse k.query (keys_in c.args.c.now) (keys_in c.args.d.now)) c.index-queries-i.is (c.if-not-is_no_worse.ensures.0 refl))

pub returns-then-not-is_no_worse : goal.returns-then-not-is_no_worse
returns-then-not-is_no_worse c = (
  (λ h. cc),
  (λ e. (let z : false ≡ true = c.if-not-is_no_worse.ensures.1
      (subst (λ (k : KeyedQuery). IsNoWorse k.query (keys_in c.args.c.now) (keys_in c.args.d.now)) (sym c.index-queries-i.is) (e c.loop-i.i c.index-queries-i.result c.loop-i-test.true)) in cc)),
)

pub returns : goal.returns
returns c = ((λ h. all-of (λ (k : KeyedQuery). IsNoWorse k.query (keys_in c.args.c.now) (keys_in c.args.d.now)) c.args.queries.now c.loop-i.i c.loop-i-test.false c.loop-i.invariant), (λ e. refl))
