use Rattle.sem_query.specs.Parts.{pairs}
use Rattle.std.proofs.Common.{◌≡◌, ◌∙◌, ◌<◌, ◌^◌, List, length, map, sym, ap, subst, arith, pos}
use Rattle.sem_query.specs.Boxes.{box_size, place_of, values_at, AreFull}
use Rattle.sem_query.specs.declared.plan.Dim.{Dim}
use Rattle.sem_query.specs.Plan.{dims_at}
use Rattle.sem_query.proofs.BoxLaws.{sound-full, sound-from, room-at}
use Rattle.exec_ranges.specs.Narrowed.{narrowed_dims}
use Rattle.exec_ranges.specs.Values.{value_in}
use Rattle.exec_ranges.proofs.DimLaws.{dims-beside}
use Rattle.exec_synopsis.specs.Narrowing.{narrow}
use Rattle.exec_join.proofs.AlongLaws.{along-none, along-next, along-line, along-count, low-fits, wide-fits, far-fits, one-full}
use Rattle.exec_join.proofs.BesideLaws.{no-links}
use Rattle.exec_join.proofs.along.line_ahead.Goals as goal

abbrev none : Dim
none = record { attr = record { stream = 0; column = 0 }; lo = pos 0; hi = pos 0 }

pub dims-init : goal.dims-init
dims-init c =
    let at = c.args.at.now in
    along-none (narrow at.arriving (length c.args.known.now) at.part.now.equal.items at.part.now.less.items (value_in (pairs at.q.now) at.part.now at.arriving at.row.now.items c.args.known.now)) c.as_slice-dim-items.result.now

pub dims-preserved : goal.dims-preserved
dims-preserved c =
    let at = c.args.at.now in
    let full = c.as_slice-dim-items.result.now in
    let whole : full ≡ dims_at at.part.now (length c.args.known.now) = c.as_slice-dim-items.ensures.value ∙ ap (λ s. s.dims.items) c.stream_at-plan.ensures in
    let are-full : AreFull full = subst AreFull (sym whole) c.requires.laid.full in
    let size = ap box_size whole in
    let few : box_size full < 2 ^ 32 = omega (arith, size, c.requires.laid.size, c.requires.laid.few) in
    let narrows : Dim → Dim = narrow at.arriving (length c.args.known.now) at.part.now.equal.items at.part.now.less.items (value_in (pairs at.q.now) at.part.now at.arriving at.row.now.items c.args.known.now) in
    along-next narrows full are-full c.dims.dim-index c.dims.line c.dims.invariant none c.dims-test.true c.in-Some.next c.in-Some.ensures

pub longer_line-requires-clause-few : goal.longer_line-requires-clause-few
longer_line-requires-clause-few c =
    let at = c.args.at.now in
    let full = c.as_slice-dim-items.result.now in
    let whole : full ≡ dims_at at.part.now (length c.args.known.now) = c.as_slice-dim-items.ensures.value ∙ ap (λ s. s.dims.items) c.stream_at-plan.ensures in
    let are-full : AreFull full = subst AreFull (sym whole) c.requires.laid.full in
    let size = ap box_size whole in
    let few : box_size full < 2 ^ 32 = omega (arith, size, c.requires.laid.size, c.requires.laid.few) in
    let narrows : Dim → Dim = narrow at.arriving (length c.args.known.now) at.part.now.equal.items at.part.now.less.items (value_in (pairs at.q.now) at.part.now at.arriving at.row.now.items c.args.known.now) in
    (room-at full c.dims.dim-index none c.dims-test.true (sound-from full c.dims.dim-index (sound-full full are-full few))).one

pub longer_line-requires-clause-fits : goal.longer_line-requires-clause-fits
longer_line-requires-clause-fits c =
    let at = c.args.at.now in
    let full = c.as_slice-dim-items.result.now in
    let whole : full ≡ dims_at at.part.now (length c.args.known.now) = c.as_slice-dim-items.ensures.value ∙ ap (λ s. s.dims.items) c.stream_at-plan.ensures in
    let are-full : AreFull full = subst AreFull (sym whole) c.requires.laid.full in
    let size = ap box_size whole in
    let few : box_size full < 2 ^ 32 = omega (arith, size, c.requires.laid.size, c.requires.laid.few) in
    let narrows : Dim → Dim = narrow at.arriving (length c.args.known.now) at.part.now.equal.items at.part.now.less.items (value_in (pairs at.q.now) at.part.now at.arriving at.row.now.items c.args.known.now) in
    let fits = low-fits narrows full are-full c.dims.dim-index c.dims.line c.dims.invariant none c.dims-test.true in
    omega (arith, fits, few)

pub longer_line-requires-clause-wide : goal.longer_line-requires-clause-wide
longer_line-requires-clause-wide c =
    let at = c.args.at.now in
    let full = c.as_slice-dim-items.result.now in
    let whole : full ≡ dims_at at.part.now (length c.args.known.now) = c.as_slice-dim-items.ensures.value ∙ ap (λ s. s.dims.items) c.stream_at-plan.ensures in
    let are-full : AreFull full = subst AreFull (sym whole) c.requires.laid.full in
    let size = ap box_size whole in
    let few : box_size full < 2 ^ 32 = omega (arith, size, c.requires.laid.size, c.requires.laid.few) in
    let narrows : Dim → Dim = narrow at.arriving (length c.args.known.now) at.part.now.equal.items at.part.now.less.items (value_in (pairs at.q.now) at.part.now at.arriving at.row.now.items c.args.known.now) in
    let fits = wide-fits narrows full are-full c.dims.dim-index c.dims.line c.dims.invariant none c.dims-test.true in
    omega (arith, fits, few)

pub longer_line-requires-clause-far : goal.longer_line-requires-clause-far
longer_line-requires-clause-far c =
    let at = c.args.at.now in
    let full = c.as_slice-dim-items.result.now in
    let whole : full ≡ dims_at at.part.now (length c.args.known.now) = c.as_slice-dim-items.ensures.value ∙ ap (λ s. s.dims.items) c.stream_at-plan.ensures in
    let are-full : AreFull full = subst AreFull (sym whole) c.requires.laid.full in
    let size = ap box_size whole in
    let few : box_size full < 2 ^ 32 = omega (arith, size, c.requires.laid.size, c.requires.laid.few) in
    let narrows : Dim → Dim = narrow at.arriving (length c.args.known.now) at.part.now.equal.items at.part.now.less.items (value_in (pairs at.q.now) at.part.now at.arriving at.row.now.items c.args.known.now) in
    let fits = far-fits narrows full are-full c.dims.dim-index c.dims.line c.dims.invariant none c.dims-test.true in
    omega (arith, fits, few)

pub longer_line-requires-clause-full : goal.longer_line-requires-clause-full
longer_line-requires-clause-full c =
    let at = c.args.at.now in
    let full = c.as_slice-dim-items.result.now in
    let whole : full ≡ dims_at at.part.now (length c.args.known.now) = c.as_slice-dim-items.ensures.value ∙ ap (λ s. s.dims.items) c.stream_at-plan.ensures in
    let are-full : AreFull full = subst AreFull (sym whole) c.requires.laid.full in
    let size = ap box_size whole in
    let few : box_size full < 2 ^ 32 = omega (arith, size, c.requires.laid.size, c.requires.laid.few) in
    let narrows : Dim → Dim = narrow at.arriving (length c.args.known.now) at.part.now.equal.items at.part.now.less.items (value_in (pairs at.q.now) at.part.now at.arriving at.row.now.items c.args.known.now) in
    one-full narrows full are-full c.dims.dim-index c.dims.line c.dims.invariant none c.dims-test.true

pub returns-clause-line : goal.returns-clause-line
unfolding narrowed_dims
returns-clause-line c n l =
    let at = c.args.at.now in
    let full = c.as_slice-dim-items.result.now in
    let whole : full ≡ dims_at at.part.now (length c.args.known.now) = c.as_slice-dim-items.ensures.value ∙ ap (λ s. s.dims.items) c.stream_at-plan.ensures in
    let are-full : AreFull full = subst AreFull (sym whole) c.requires.laid.full in
    let size = ap box_size whole in
    let few : box_size full < 2 ^ 32 = omega (arith, size, c.requires.laid.size, c.requires.laid.few) in
    let narrows : Dim → Dim = narrow at.arriving (length c.args.known.now) at.part.now.equal.items at.part.now.less.items (value_in (pairs at.q.now) at.part.now at.arriving at.row.now.items c.args.known.now) in
    let beside = dims-beside (pairs at.q.now) at.part.now at.arriving at.row.now.items (2 ^ 32) c.args.known.now (λ n. c.requires.laid) c.requires.other in
    let left : narrowed_dims (pairs at.q.now) at.part.now at.arriving at.row.now.items c.args.known.now ≡ map narrows full = ap (map narrows) (beside ∙ sym whole) in
    let many = ap box_size left in
    let on = along-line narrows full c.dims.dim-index c.dims.line c.dims.invariant (omega (arith, c.dims-test.false)) n (omega (arith, l, many)) in
    let base = ap (λ s. s.base) c.stream_at-plan.ensures in
    let p : place_of (dims_at at.part.now (length c.args.known.now)) (values_at (narrowed_dims (pairs at.q.now) at.part.now at.arriving at.row.now.items c.args.known.now) n) ≡ place_of full (values_at (map narrows full) n) = λ k. place_of (sym whole k) (values_at (left k) n) in
    omega (arith, p, on, base)

pub returns-clause-count : goal.returns-clause-count
unfolding narrowed_dims
returns-clause-count c =
    let at = c.args.at.now in
    let full = c.as_slice-dim-items.result.now in
    let whole : full ≡ dims_at at.part.now (length c.args.known.now) = c.as_slice-dim-items.ensures.value ∙ ap (λ s. s.dims.items) c.stream_at-plan.ensures in
    let are-full : AreFull full = subst AreFull (sym whole) c.requires.laid.full in
    let size = ap box_size whole in
    let few : box_size full < 2 ^ 32 = omega (arith, size, c.requires.laid.size, c.requires.laid.few) in
    let narrows : Dim → Dim = narrow at.arriving (length c.args.known.now) at.part.now.equal.items at.part.now.less.items (value_in (pairs at.q.now) at.part.now at.arriving at.row.now.items c.args.known.now) in
    let beside = dims-beside (pairs at.q.now) at.part.now at.arriving at.row.now.items (2 ^ 32) c.args.known.now (λ n. c.requires.laid) c.requires.other in
    along-count narrows full c.dims.dim-index c.dims.line c.dims.invariant (omega (arith, c.dims-test.false)) ∙ ap (λ (ds : List Dim). box_size (map narrows ds)) (whole ∙ sym beside)

pub longer_line-requires-clause-free : goal.longer_line-requires-clause-free
longer_line-requires-clause-free c = no-links _ _ c.as_slice.ensures.value c.is_empty.result c.is_empty.ensures c.if-not-is_empty.false
