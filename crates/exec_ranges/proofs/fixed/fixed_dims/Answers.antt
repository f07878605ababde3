use Rattle.sem_query.specs.Parts.{pairs}
use Rattle.std.proofs.Common.{rules, w64, SFits, to_z, of_z, ◌≡◌, ◌+◌, ◌*◌, ◌<◌, ◌^◌, ℕ, length, map, get_or, refl, sym, ap, ◌∙◌, subst, arith, pos}
use Rattle.sem_query.specs.Boxes.{dim_size, box_size, place_of, AreFull}
use Rattle.sem_query.specs.declared.plan.Dim.{Dim}
use Rattle.sem_query.specs.Plan.{dims_at}
use Rattle.sem_query.proofs.BoxLaws.{sound-full, sound-from, room-at, place-below}
use Rattle.exec_ranges.specs.Values.{value_in}
use Rattle.exec_synopsis.specs.Narrowing.{narrow}
use Rattle.exec_ranges.specs.Narrowed.{narrowed_dims}
use Rattle.exec_ranges.proofs.FixedLaws.{SoFixed, place-fits, fixed-next, fixed-end}
use Rattle.exec_ranges.proofs.DimLaws.{dims-beside}
use Rattle.std.proofs.lemmas.Int.{ints}
use Rattle.exec_ranges.specs.Lined.{IsFixed}
use Rattle.exec_synopsis.specs.Narrowing.{binding_column, narrowed_to}
use Rattle.exec_ranges.proofs.NarrowLaws.{fixed-narrow}
use Rattle.exec_ranges.proofs.fixed.fixed_dims.Goals as goal

abbrev none : Dim
none = record { attr = record { stream = 0; column = 0 }; lo = pos 0; hi = pos 0 }

pub dim_size-requires : goal.dim_size-requires
dim_size-requires c =
    let full = c.as_slice-dim-items.result.now in
    let whole : full ≡ dims_at c.args.at.now.part.now (length c.args.known.now) = c.as_slice-dim-items.ensures.value ∙ ap (λ s. s.dims.items) c.stream_at-plan.ensures in
    let are-full : AreFull full = subst AreFull (sym whole) c.requires.laid.full in
    let size = ap box_size whole in
    let few : box_size full < 2 ^ 32 = omega (arith, size, c.requires.laid.size, c.requires.laid.few) in
    (room-at full c.dims.dim-index none c.dims-test.true (sound-from full c.dims.dim-index (sound-full full are-full few))).one

pub overflow_mul-place : goal.overflow_mul-place
overflow_mul-place c =
    let full = c.as_slice-dim-items.result.now in
    let whole : full ≡ dims_at c.args.at.now.part.now (length c.args.known.now) = c.as_slice-dim-items.ensures.value ∙ ap (λ s. s.dims.items) c.stream_at-plan.ensures in
    let are-full : AreFull full = subst AreFull (sym whole) c.requires.laid.full in
    let size = ap box_size whole in
    let few : box_size full < 2 ^ 32 = omega (arith, size, c.requires.laid.size, c.requires.laid.few) in
    let narrows : Dim → Dim = narrow c.args.at.now.arriving (length c.args.known.now) c.args.at.now.part.now.equal.items c.args.at.now.part.now.less.items (value_in (pairs c.args.at.now.q.now) c.args.at.now.part.now c.args.at.now.arriving c.args.at.now.row.now.items c.args.known.now) in
    let d : Dim = get_or full c.dims.dim-index none in
    let n = c.in-Some-pinned.fixed in
    let fits64 : SFits w64 c.value_in.result = search rules in
    let same : to_z w64 (of_z w64 c.value_in.result) ≡ c.value_in.result = omega (arith, ints) in
    let so : IsFixed d (narrows d) n = fixed-narrow c.args.at.now.arriving (length c.args.known.now) c.args.at.now.part.now.equal.items c.args.at.now.part.now.less.items (value_in (pairs c.args.at.now.q.now) c.args.at.now.part.now c.args.at.now.arriving c.args.at.now.row.now.items c.args.known.now) d c.in-Some.column n
    (ap (binding_column c.args.at.now.arriving (length c.args.known.now) d.attr) (sym c.as_slice-links.ensures.value) ∙ sym c.binding_column.ensures ∙ c.in-Some.is)
    (c.in-Some-pinned.ensures.0 ∙ ap (narrowed_to d) (same ∙ c.value_in.ensures))
    c.in-Some-pinned.ensures.1 in
    let fits = place-fits narrows full c.dims.dims.items c.dims.dim-index c.dims.place c.dims.invariant d none n c.dims-test.true refl so.is so.one so.low so.high are-full few in
    let x : c.dims.place * c.dim_size.result ≡ c.dims.place * dim_size d = ap (λ k. c.dims.place * k) c.dim_size.ensures in
    omega (arith, fits, x)

pub overflow_add-place : goal.overflow_add-place
overflow_add-place c =
    let full = c.as_slice-dim-items.result.now in
    let whole : full ≡ dims_at c.args.at.now.part.now (length c.args.known.now) = c.as_slice-dim-items.ensures.value ∙ ap (λ s. s.dims.items) c.stream_at-plan.ensures in
    let are-full : AreFull full = subst AreFull (sym whole) c.requires.laid.full in
    let size = ap box_size whole in
    let few : box_size full < 2 ^ 32 = omega (arith, size, c.requires.laid.size, c.requires.laid.few) in
    let narrows : Dim → Dim = narrow c.args.at.now.arriving (length c.args.known.now) c.args.at.now.part.now.equal.items c.args.at.now.part.now.less.items (value_in (pairs c.args.at.now.q.now) c.args.at.now.part.now c.args.at.now.arriving c.args.at.now.row.now.items c.args.known.now) in
    let d : Dim = get_or full c.dims.dim-index none in
    let n = c.in-Some-pinned.fixed in
    let fits64 : SFits w64 c.value_in.result = search rules in
    let same : to_z w64 (of_z w64 c.value_in.result) ≡ c.value_in.result = omega (arith, ints) in
    let so : IsFixed d (narrows d) n = fixed-narrow c.args.at.now.arriving (length c.args.known.now) c.args.at.now.part.now.equal.items c.args.at.now.part.now.less.items (value_in (pairs c.args.at.now.q.now) c.args.at.now.part.now c.args.at.now.arriving c.args.at.now.row.now.items c.args.known.now) d c.in-Some.column n
    (ap (binding_column c.args.at.now.arriving (length c.args.known.now) d.attr) (sym c.as_slice-links.ensures.value) ∙ sym c.binding_column.ensures ∙ c.in-Some.is)
    (c.in-Some-pinned.ensures.0 ∙ ap (narrowed_to d) (same ∙ c.value_in.ensures))
    c.in-Some-pinned.ensures.1 in
    let fits = place-fits narrows full c.dims.dims.items c.dims.dim-index c.dims.place c.dims.invariant d none n c.dims-test.true refl so.is so.one so.low so.high are-full few in
    let x : c.dims.place * c.dim_size.result ≡ c.dims.place * dim_size d = ap (λ k. c.dims.place * k) c.dim_size.ensures in
    omega (arith, fits, x, c.offset_of.ensures)

pub dims-preserved : goal.dims-preserved
dims-preserved c =
    let full = c.as_slice-dim-items.result.now in
    let whole : full ≡ dims_at c.args.at.now.part.now (length c.args.known.now) = c.as_slice-dim-items.ensures.value ∙ ap (λ s. s.dims.items) c.stream_at-plan.ensures in
    let are-full : AreFull full = subst AreFull (sym whole) c.requires.laid.full in
    let size = ap box_size whole in
    let few : box_size full < 2 ^ 32 = omega (arith, size, c.requires.laid.size, c.requires.laid.few) in
    let narrows : Dim → Dim = narrow c.args.at.now.arriving (length c.args.known.now) c.args.at.now.part.now.equal.items c.args.at.now.part.now.less.items (value_in (pairs c.args.at.now.q.now) c.args.at.now.part.now c.args.at.now.arriving c.args.at.now.row.now.items c.args.known.now) in
    let d : Dim = get_or full c.dims.dim-index none in
    let n = c.in-Some-pinned.fixed in
    let fits64 : SFits w64 c.value_in.result = search rules in
    let same : to_z w64 (of_z w64 c.value_in.result) ≡ c.value_in.result = omega (arith, ints) in
    let so : IsFixed d (narrows d) n = fixed-narrow c.args.at.now.arriving (length c.args.known.now) c.args.at.now.part.now.equal.items c.args.at.now.part.now.less.items (value_in (pairs c.args.at.now.q.now) c.args.at.now.part.now c.args.at.now.arriving c.args.at.now.row.now.items c.args.known.now) d c.in-Some.column n
    (ap (binding_column c.args.at.now.arriving (length c.args.known.now) d.attr) (sym c.as_slice-links.ensures.value) ∙ sym c.binding_column.ensures ∙ c.in-Some.is)
    (c.in-Some-pinned.ensures.0 ∙ ap (narrowed_to d) (same ∙ c.value_in.ensures))
    c.in-Some-pinned.ensures.1 in
    subst (λ (m : ℕ). SoFixed narrows full c.push.new.self.items (c.dims.dim-index + 1) m) (λ k. c.dims.place * sym c.dim_size.ensures k + sym c.offset_of.ensures k)
    (fixed-next narrows full c.dims.dims.items c.dims.dim-index c.dims.place c.dims.invariant d none n c.dims-test.true refl so.is so.one so.low so.high c.push.new.self.items c.push.ensures.items)

pub overflow_add-result : goal.overflow_add-result
overflow_add-result c =
    let full = c.as_slice-dim-items.result.now in
    let whole : full ≡ dims_at c.args.at.now.part.now (length c.args.known.now) = c.as_slice-dim-items.ensures.value ∙ ap (λ s. s.dims.items) c.stream_at-plan.ensures in
    let are-full : AreFull full = subst AreFull (sym whole) c.requires.laid.full in
    let size = ap box_size whole in
    let few : box_size full < 2 ^ 32 = omega (arith, size, c.requires.laid.size, c.requires.laid.few) in
    let e = fixed-end _ full c.dims.dims.items c.dims.dim-index c.dims.place c.dims.invariant (omega (arith, c.dims-test.false)) in
    let b = place-below full (map (λ d. d.lo) c.dims.dims.items) e.1 in
    let base = ap (λ s. s.base) c.stream_at-plan.ensures in
    let p = e.2 in
    omega (arith, b, p, base, size, c.requires.laid.size, c.requires.laid.few)

pub returns : goal.returns
unfolding narrowed_dims
returns c =
    let full = c.as_slice-dim-items.result.now in
    let whole : full ≡ dims_at c.args.at.now.part.now (length c.args.known.now) = c.as_slice-dim-items.ensures.value ∙ ap (λ s. s.dims.items) c.stream_at-plan.ensures in
    let are-full : AreFull full = subst AreFull (sym whole) c.requires.laid.full in
    let size = ap box_size whole in
    let few : box_size full < 2 ^ 32 = omega (arith, size, c.requires.laid.size, c.requires.laid.few) in
    let e = fixed-end _ full c.dims.dims.items c.dims.dim-index c.dims.place c.dims.invariant (omega (arith, c.dims-test.false)) in
    let beside = dims-beside (pairs c.args.at.now.q.now) c.args.at.now.part.now c.args.at.now.arriving c.args.at.now.row.now.items (2 ^ 32) c.args.known.now (λ n. c.requires.laid) c.requires.other in
    record {
      are = e.0 ∙ ap (map (narrow c.args.at.now.arriving (length c.args.known.now) c.args.at.now.part.now.equal.items c.args.at.now.part.now.less.items (value_in (pairs c.args.at.now.q.now) c.args.at.now.part.now c.args.at.now.arriving c.args.at.now.row.now.items c.args.known.now))) (whole ∙ sym beside);
      one = c.dims.invariant.one;
      cell = (λ k. (sym c.stream_at-plan.ensures k).base + place_of (sym whole k) (map (λ d. d.lo) c.dims.dims.items)) ∙ ap (λ n. c.stream_at-plan.result.now.base + n) (sym e.2);
    }
