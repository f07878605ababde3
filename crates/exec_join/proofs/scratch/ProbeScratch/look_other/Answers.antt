use Rattle.sem_query.specs.Parts.{pairs}
use Rattle.std.proofs.Common.{◌≡◌, ◌<◌, ◌^◌, List, length, sym, ap, ◌∙◌, subst, map, arith, ℕ, ◌≢◌}
use Rattle.sem_query.specs.Boxes.{box_size, AreNumbered, AreInside}
use Rattle.sem_query.specs.Plan.{dims_at, stream_at}
use Rattle.sem_query.proofs.BoxLaws.{sound-full}
use Rattle.exec_synopsis.specs.Premises.{IsLaidOut}
use Rattle.exec_ranges.specs.declared.binding.Binding.{Binding}
use Rattle.exec_ranges.specs.Narrowed.{narrowed_dims}
use Rattle.exec_ranges.proofs.DimLaws.{sound-narrowed, low-narrowed}
use Rattle.sem_query.specs.declared.plan.Dim.{Dim}
use Rattle.exec_pool.specs.declared.scan.StridedCells.{StridedCells}
use Rattle.exec_ranges.specs.Lined.{IsLine, StandOn}
use Rattle.exec_ranges.proofs.FixedLaws.{line-one}
use Rattle.sem_query.specs.declared.plan.StreamPlan.{StreamPlan}
use Rattle.std.specs.Prelude.{Some}
use Rattle.exec_synopsis.specs.Pinning.{IsWhole}
use Rattle.exec_ranges.proofs.AccessLaws.{whole-dims, whole-size, whole-line}
use Rattle.exec_join.proofs.UnderwayLaws.{own-dims}
use Rattle.exec_join.proofs.scratch.ProbeScratch.look_other.Goals as goal

pub returns-then-at-place-clause-size : goal.returns-then-at-place-clause-size
returns-then-at-place-clause-size c =
    let at = c.args.at.now in
    let own = own-dims (pairs at.q.now) at.part.now at.arriving at.row.now.items c.args.self.now.chosen.items (sym (c.if-at-place.true ∙ c.len-place.ensures.value)) in
    sym (ap box_size own)

pub returns-then-at-place-clause-dims : goal.returns-then-at-place-clause-dims
returns-then-at-place-clause-dims c =
    let at = c.args.at.now in
    let own = own-dims (pairs at.q.now) at.part.now at.arriving at.row.now.items c.args.self.now.chosen.items (sym (c.if-at-place.true ∙ c.len-place.ensures.value)) in
    c.clear.ensures ∙ sym own

pub returns-in-Some-clause-line : goal.returns-in-Some-clause-line
returns-in-Some-clause-line c =
    let part = c.args.at.now.part.now in
    let known = c.args.self.now.chosen.items in
    let f = c.in-Some.ensures in
    let line : StridedCells = record { first = c.in-Some.first; stride = 1 } in
    let e : c.fixed_dims.new.dims.items ≡ narrowed_dims (pairs c.args.at.now.q.now) part c.args.at.now.arriving c.args.at.now.row.now.items known = f.are ∙ ap (λ (cs : List Binding). narrowed_dims (pairs c.args.at.now.q.now) part c.args.at.now.arriving c.args.at.now.row.now.items cs) c.as_slice.ensures.value in (
      λ h. c.if-at-place.false (sym h ∙ sym c.len-place.ensures.value),
      subst (λ (ds : List Dim). IsLine (stream_at part (length known)).base (dims_at part (length known)) ds line) e
          (subst (λ (n : ℕ). IsLine (stream_at part n).base (dims_at part n) c.fixed_dims.new.dims.items line) (ap length c.as_slice.ensures.value)
          (line-one _ c.in-Some.first _ c.fixed_dims.new.dims.items f.one f.cell)),
    )

pub returns-then-is_scan-clause-dims : goal.returns-then-is_scan-clause-dims
returns-then-is_scan-clause-dims c =
    let part = c.args.at.now.part.now in
    let known = c.args.self.now.chosen.items in
    let here : c.len-place.result ≡ length known = c.len-place.ensures.value in
    let other : length known ≢ c.args.at.now.arriving = λ h. c.if-at-place.false (sym h ∙ sym here) in
    let whole : IsWhole part c.args.at.now.arriving (length known) = subst (IsWhole part c.args.at.now.arriving) here (c.requires.prepared.whole c.args.at.now.arriving c.len-place.result (sym c.access.ensures ∙ c.is_scan.ensures c.if-is_scan.true)) in
    let plan : c.stream_at-plan.result.now ≡ stream_at part (length known) = c.stream_at-plan.ensures ∙ ap (stream_at part) here in
    let laid = c.requires.laid other in
    c.copy_from.ensures ∙ c.as_slice-then-is_scan.ensures.value ∙ ap (λ (s : StreamPlan). s.dims.items) plan ∙ sym (whole-dims (pairs c.args.at.now.q.now) part c.args.at.now.arriving c.args.at.now.row.now.items known laid other whole)

pub returns-then-is_scan-clause-size : goal.returns-then-is_scan-clause-size
returns-then-is_scan-clause-size c =
    let part = c.args.at.now.part.now in
    let known = c.args.self.now.chosen.items in
    let here : c.len-place.result ≡ length known = c.len-place.ensures.value in
    let other : length known ≢ c.args.at.now.arriving = λ h. c.if-at-place.false (sym h ∙ sym here) in
    let whole : IsWhole part c.args.at.now.arriving (length known) = subst (IsWhole part c.args.at.now.arriving) here (c.requires.prepared.whole c.args.at.now.arriving c.len-place.result (sym c.access.ensures ∙ c.is_scan.ensures c.if-is_scan.true)) in
    let plan : c.stream_at-plan.result.now ≡ stream_at part (length known) = c.stream_at-plan.ensures ∙ ap (stream_at part) here in
    let laid = c.requires.laid other in
    ap (λ (s : StreamPlan). s.size) plan ∙ whole-size (pairs c.args.at.now.q.now) part c.args.at.now.arriving c.args.at.now.row.now.items known laid other whole

pub returns-then-is_scan-clause-line : goal.returns-then-is_scan-clause-line
returns-then-is_scan-clause-line c =
    let part = c.args.at.now.part.now in
    let known = c.args.self.now.chosen.items in
    let here : c.len-place.result ≡ length known = c.len-place.ensures.value in
    let other : length known ≢ c.args.at.now.arriving = λ h. c.if-at-place.false (sym h ∙ sym here) in
    let whole : IsWhole part c.args.at.now.arriving (length known) = subst (IsWhole part c.args.at.now.arriving) here (c.requires.prepared.whole c.args.at.now.arriving c.len-place.result (sym c.access.ensures ∙ c.is_scan.ensures c.if-is_scan.true)) in
    let plan : c.stream_at-plan.result.now ≡ stream_at part (length known) = c.stream_at-plan.ensures ∙ ap (stream_at part) here in
    let laid = c.requires.laid other in
    subst (λ (s : StreamPlan). StandOn part c.args.at.now.arriving (length known) (narrowed_dims (pairs c.args.at.now.q.now) part c.args.at.now.arriving c.args.at.now.row.now.items known) (Some (record { first = s.base; stride = 1 }))) (sym plan)
    (whole-line (pairs c.args.at.now.q.now) part c.args.at.now.arriving c.args.at.now.row.now.items known laid other whole)

pub size_of-size-requires : goal.size_of-size-requires
size_of-size-requires c =
    let known = c.args.self.now.chosen.items in
    let e : c.as_slice-3.result.now ≡ narrowed_dims (pairs c.args.at.now.q.now) c.args.at.now.part.now c.args.at.now.arriving c.args.at.now.row.now.items known = c.as_slice-3.ensures.value ∙ c.narrowed_dims.ensures ∙ ap (λ (cs : List Binding). narrowed_dims (pairs c.args.at.now.q.now) c.args.at.now.part.now c.args.at.now.arriving c.args.at.now.row.now.items cs) c.as_slice-2.ensures.value in
    subst AreNumbered (sym e) (sound-narrowed (pairs c.args.at.now.q.now) c.args.at.now.part.now c.args.at.now.arriving c.args.at.now.row.now.items _ known c.requires.laid)

pub line_of-self-requires-clause-sound : goal.line_of-self-requires-clause-sound
line_of-self-requires-clause-sound c =
    let known = c.args.self.now.chosen.items in
    let e : c.as_slice-5.result.now ≡ narrowed_dims (pairs c.args.at.now.q.now) c.args.at.now.part.now c.args.at.now.arriving c.args.at.now.row.now.items known = c.as_slice-5.ensures.value ∙ c.narrowed_dims.ensures ∙ ap (λ (cs : List Binding). narrowed_dims (pairs c.args.at.now.q.now) c.args.at.now.part.now c.args.at.now.arriving c.args.at.now.row.now.items cs) c.as_slice-2.ensures.value in
    subst AreNumbered (sym e) (sound-narrowed (pairs c.args.at.now.q.now) c.args.at.now.part.now c.args.at.now.arriving c.args.at.now.row.now.items _ known c.requires.laid)

pub line_of-self-requires-clause-numbered : goal.line_of-self-requires-clause-numbered
line_of-self-requires-clause-numbered c =
    let here : c.len-place.result ≡ length c.args.self.now.chosen.items = c.len-place.ensures.value in
    let laid : IsLaidOut (stream_at c.args.at.now.part.now c.len-place.result) (2 ^ 32)
    = subst (λ n. IsLaidOut (stream_at c.args.at.now.part.now n) (2 ^ 32)) (sym here) (c.requires.laid (λ e. c.if-at-place.false (sym e ∙ sym here))) in
    subst AreNumbered (sym (c.as_slice-4.ensures.value ∙ ap (λ s. s.dims.items) c.stream_at-plan.ensures)) (sound-full _ laid.full (omega (arith, laid.size, laid.few)))

pub line_of-self-requires-clause-inside : goal.line_of-self-requires-clause-inside
line_of-self-requires-clause-inside c =
    let at = c.args.at.now in
    let known = c.args.self.now.chosen.items in
    let e : c.as_slice-5.result.now ≡ narrowed_dims (pairs at.q.now) at.part.now at.arriving at.row.now.items known = c.as_slice-5.ensures.value ∙ c.narrowed_dims.ensures ∙ ap (λ (cs : List Binding). narrowed_dims (pairs at.q.now) at.part.now at.arriving at.row.now.items cs) c.as_slice-2.ensures.value in
    let here : c.len-place.result ≡ length known = c.len-place.ensures.value in
    let whole : c.as_slice-4.result.now ≡ dims_at at.part.now (length known) = c.as_slice-4.ensures.value ∙ ap (λ s. s.dims.items) c.stream_at-plan.ensures ∙ ap (dims_at at.part.now) here in
    let many : box_size c.as_slice-3.result.now ≡ box_size c.as_slice-5.result.now = ap box_size (c.as_slice-3.ensures.value ∙ sym c.as_slice-5.ensures.value) in
    let size = c.size_of-size.ensures in
    let some : 0 < box_size c.as_slice-5.result.now = omega (arith, c.if-size-eq0.false, size, many) in
    subst (λ ds. AreInside c.as_slice-4.result.now (map (λ d. d.lo) ds)) (sym e)
    (subst (λ fs. AreInside fs (map (λ d. d.lo) (narrowed_dims (pairs at.q.now) at.part.now at.arriving at.row.now.items known))) (sym whole)
    (low-narrowed (pairs at.q.now) at.part.now at.arriving at.row.now.items _ known c.requires.laid (λ h. c.if-at-place.false (sym h ∙ sym here)) (subst (λ ds. 0 < box_size ds) e some)))
