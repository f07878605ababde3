use Rattle.sem_query.specs.Parts.{pairs}
use Rattle.std.proofs.Common.{◌≡◌, ◌∙◌, List, length, sym, ap, subst}
use Rattle.sem_query.specs.Plan.{stream_at, dims_at}
use Rattle.sem_query.specs.declared.plan.Dim.{Dim}
use Rattle.sem_query.specs.declared.plan.StreamPlan.{StreamPlan}
use Rattle.exec_ranges.specs.Lined.{AreFixed}
use Rattle.exec_synopsis.specs.Pinning.{IsWhole}
use Rattle.exec_ranges.specs.Narrowed.{narrowed_dims}
use Rattle.exec_ranges.proofs.AccessLaws.{whole-fixed}
use Rattle.exec_ranges.proofs.fixed.single_dims.Goals as goal

pub returns : goal.returns
returns c =
    let part = c.args.at.now.part.now in
    let known = c.args.known.now in
    let whole : IsWhole part c.args.at.now.arriving (length known) = c.requires.prepared.whole c.args.at.now.arriving (length known) (sym c.access.ensures ∙ c.is_scan.ensures c.if-not-is_scan.false) in
    let plan : c.stream_at-plan.result.now ≡ stream_at part (length known) = c.stream_at-plan.ensures in
    let one : (stream_at part (length known)).size ≡ 1 = ap (λ (s : StreamPlan). s.size) (sym plan) ∙ c.if-plan-ne1.false in
    let ds : c.copy_from.new.self.items ≡ dims_at part (length known) = c.copy_from.ensures ∙ c.as_slice.ensures.value ∙ ap (λ (s : StreamPlan). s.dims.items) plan in
    subst (λ (n : StreamPlan). AreFixed part (length known) (narrowed_dims (pairs c.args.at.now.q.now) part c.args.at.now.arriving c.args.at.now.row.now.items known) c.copy_from.new.self.items n.base) (sym plan)
    (subst (λ (xs : List Dim). AreFixed part (length known) (narrowed_dims (pairs c.args.at.now.q.now) part c.args.at.now.arriving c.args.at.now.row.now.items known) xs (stream_at part (length known)).base) (sym ds)
    (whole-fixed (pairs c.args.at.now.q.now) part c.args.at.now.arriving c.args.at.now.row.now.items known c.requires.laid c.requires.other whole one))
