use Rattle.std.proofs.Common.{◌∙◌, ◌&&◌, ap, sym}
use Rattle.std.specs.List.{list_all}
use Rattle.exec_filter.specs.Prefilter.{is_within, is_within_some}
use Rattle.exec_filter.proofs.PrefilterLaws.{either_order}
use Rattle.exec_filter.proofs.prefilter.put.Goals as goal

pub returns-then-is_narrower-clause-all : goal.returns-then-is_narrower-clause-all
returns-then-is_narrower-clause-all c = λ v. ap (list_all (is_within v)) c.insert.ensures.items ∙ either_order (is_within v c.in-Some.range) (list_all (is_within v) c.args.ranges.now.items)
    ∙ ap (λ o. list_all (is_within v) c.args.ranges.now.items && is_within_some v o) (sym c.in-Some.is)
