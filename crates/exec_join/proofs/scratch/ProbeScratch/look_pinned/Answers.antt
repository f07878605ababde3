use Rattle.sem_query.specs.Parts.{pairs}
use Rattle.std.proofs.Common.{◌≡◌, ◌∙◌, ℕ, List, length, sym, ap, subst}
use Rattle.sem_query.specs.Boxes.{box_size}
use Rattle.sem_query.specs.Plan.{stream_at, dims_at}
use Rattle.sem_query.specs.declared.plan.Dim.{Dim}
use Rattle.exec_ranges.specs.declared.binding.Binding.{Binding}
use Rattle.exec_pool.specs.declared.scan.StridedCells.{StridedCells}
use Rattle.exec_ranges.specs.Lined.{IsLine}
use Rattle.exec_ranges.specs.Narrowed.{narrowed_dims}
use Rattle.exec_ranges.proofs.FixedLaws.{line-one}
use Rattle.exec_join.proofs.scratch.ProbeScratch.look_pinned.Goals as goal

pub returns-clause-fixed : goal.returns-clause-fixed
returns-clause-fixed c t =
    let part = c.args.at.now.part.now in
    let known = c.args.self.now.chosen.items in
    let f = c.in-Some.ensures in
    let line : StridedCells = record { first = c.in-Some.first; stride = 1 } in
    let e : c.pinned_dims.new.dims.items ≡ narrowed_dims (pairs c.args.at.now.q.now) part c.args.at.now.arriving c.args.at.now.row.now.items known = f.are ∙ ap (λ (cs : List Binding). narrowed_dims (pairs c.args.at.now.q.now) part c.args.at.now.arriving c.args.at.now.row.now.items cs) c.as_slice.ensures.value in (
      e,
      ap box_size (sym e) ∙ f.one,
      (
        λ h. c.if-at-place.false (sym h ∙ sym c.len-place.ensures.value),
        subst (λ (ds : List Dim). IsLine (stream_at part (length known)).base (dims_at part (length known)) ds line) e
            (subst (λ (n : ℕ). IsLine (stream_at part n).base (dims_at part n) c.pinned_dims.new.dims.items line) (ap length c.as_slice.ensures.value)
            (line-one _ c.in-Some.first _ c.pinned_dims.new.dims.items f.one f.cell)),
      ),
    )
