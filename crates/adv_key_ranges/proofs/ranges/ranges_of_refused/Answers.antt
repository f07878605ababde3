use Rattle.std.proofs.Common.{List, sym, subst, ◌∙◌}
use Rattle.sem_query.specs.declared.atom.Attr.{Attr}
use Rattle.adv_key_decision.specs.Judged.{by_stream}
use Rattle.adv_key_ranges.specs.Keys.{AreRead}
use Rattle.adv_key_ranges.proofs.KeyRanges.{keys-are-read}
use Rattle.adv_key_ranges.proofs.ranges.ranges_of_refused.Goals as goal

pub least_ranges-requires-clause-columns : goal.least_ranges-requires-clause-columns
least_ranges-requires-clause-columns c =
    subst (λ (columns : List Attr). AreRead c.args.query.now columns) (sym (c.as_slice-in-Some.ensures.value ∙ c.read_keys-columns.ensures)) (keys-are-read c.args.query.now (by_stream c.args.choice.now))
