use Rattle.std.proofs.Common.{◌∷◌, subst}
use Rattle.exec_filter.specs.Prefilter.{AreStreamFilters}
use Rattle.exec_filter.proofs.PrefilterLaws.{parts_prefilter}
use Rattle.exec_filter.proofs.prefilter.prefilter_of.Goals as goal

pub returns-in-Parts : goal.returns-in-Parts
returns-in-Parts c =
    parts_prefilter c.args.q.now c.from.ensures.limits c.args.plan.now c.in-Parts.parts c.in-Parts.numbers c.prefilter_over.result c.in-Parts.is
    (subst (λ from. AreStreamFilters from c.in-Parts.parts (c.prefilter_over.result.front ∷ c.prefilter_over.result.others.items)) c.from.ensures.value c.prefilter_over.ensures)
