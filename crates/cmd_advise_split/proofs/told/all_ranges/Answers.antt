use Rattle.std.proofs.Common.{refl, sym, subst}
use Rattle.std.proofs.lemmas.List.Elements.{All-get_or}
use Rattle.plan_closure.proofs.Zips.{zip_more_at}
use Rattle.adv_key_choices.specs.declared.choice.KeyedQuery.{KeyedQuery}
use Rattle.adv_key_choices.specs.Choices.{keys_in}
use Rattle.adv_key_ranges.specs.Ranges.{AreRanges}
use Rattle.cmd_advise_split.specs.Limited.{IsLimited}
use Rattle.cmd_advise_split.proofs.told.all_ranges.Goals as goal

pub ranges_of-requires : goal.ranges_of-requires
ranges_of-requires c = subst IsLimited (sym c.index-queries-i.is) (All-get_or IsLimited c.args.queries.now c.loop-i.i _ c.loop-i-test.true c.requires)

pub loop-i-preserved : goal.loop-i-preserved
loop-i-preserved c =
    zip_more_at (λ (k : KeyedQuery) r. AreRanges k.shared k.query (keys_in c.args.choice.now) r) c.args.queries.now c.args.queries.now _ _ c.loop-i.i c.index-queries-i.result _ refl c.loop-i-test.true c.loop-i.invariant
    (subst (λ (k : KeyedQuery). AreRanges k.shared k.query (keys_in c.args.choice.now) c.in_ok-ranges.ranges) c.index-queries-i.is c.in_ok-ranges.ensures) c.in_ok-push_ranges.ensures
