use Rattle.sem_query.specs.Parts.{pairs}
use Rattle.std.proofs.Common.{List, ℤ, rules, w64, SFits, to_z, of_z, Some, ◌≡◌, ◌+◌, ◌*◌, ℕ, length, map, get_or, sym, ap, ◌∙◌, subst, arith}
use Rattle.sem_query.specs.Boxes.{dim_size}
use Rattle.sem_query.specs.declared.plan.Dim.{Dim}
use Rattle.sem_query.specs.Meaning.{by_column}
use Rattle.sem_query.specs.Plan.{stream_at}
use Rattle.exec_synopsis.specs.declared.key_columns.KeyColumn.{KeyColumn}
use Rattle.exec_ranges.specs.Lined.{AreFixed}
use Rattle.exec_ranges.specs.Values.{value_in}
use Rattle.exec_synopsis.specs.Narrowing.{narrow}
use Rattle.exec_ranges.specs.Narrowed.{narrowed_dims}
use Rattle.exec_ranges.proofs.FixedLaws.{SoFixed}
use Rattle.exec_ranges.proofs.KeyColumnLaws.{bare, key_column-fixes, same-key_columns, key_column-size, key_column-fits, key_column-next, numbered, key_columns-fixed}
use Rattle.std.proofs.lemmas.Int.{ints}
use Rattle.exec_synopsis.specs.Narrowing.{narrowed_to}
use Rattle.exec_ranges.proofs.fixed.pinned_dims.Goals as goal

pub dim_size-requires : goal.dim_size-requires
dim_size-requires c =
    let pinned = c.requires.prepared.pinned c.args.at.now.arriving (Some c.in-Some.listed.now) c.in-Some.ensures.0 in
    let key_columns = c.as_slice-key_column-items.result.now in
    let are = same-key_columns c.args.at.now.part.now c.args.at.now.arriving c.in-Some.listed.now.place (length c.args.known.now) c.in-Some.listed.now.key_columns.items key_columns c.in-Some.ensures.1 c.as_slice-key_column-items.ensures.value pinned.key_columns in
    key_column-size (pairs c.args.at.now.q.now) c.args.at.now.part.now c.args.at.now.arriving c.args.at.now.row.now.items c.args.known.now key_columns are c.requires.laid c.key_columns.key_column-index c.key_columns-test.true

pub overflow_mul-place : goal.overflow_mul-place
overflow_mul-place c =
    let pinned = c.requires.prepared.pinned c.args.at.now.arriving (Some c.in-Some.listed.now) c.in-Some.ensures.0 in
    let key_columns = c.as_slice-key_column-items.result.now in
    let are = same-key_columns c.args.at.now.part.now c.args.at.now.arriving c.in-Some.listed.now.place (length c.args.known.now) c.in-Some.listed.now.key_columns.items key_columns c.in-Some.ensures.1 c.as_slice-key_column-items.ensures.value pinned.key_columns in
    let fits64 : SFits w64 c.value_at-value.result = search rules in
    let same : to_z w64 (of_z w64 c.value_at-value.result) ≡ c.value_at-value.result = omega (arith, ints) in
    let so = key_column-fixes (pairs c.args.at.now.q.now) c.args.at.now.part.now c.args.at.now.arriving c.args.at.now.row.now.items c.args.known.now (get_or key_columns c.key_columns.key_column-index bare) c.in-Some-pinned.fixed (are.each c.key_columns.key_column-index bare c.key_columns-test.true)
    (c.in-Some-pinned.ensures.0 ∙ ap (narrowed_to (get_or key_columns c.key_columns.key_column-index bare).dim) (same ∙ c.value_at-value.ensures ∙ ap (λ (row : List ℤ). by_column row (get_or key_columns c.key_columns.key_column-index bare).column.column) c.as_slice.ensures.value)) c.in-Some-pinned.ensures.1 in
    let fits = key_column-fits (pairs c.args.at.now.q.now) c.args.at.now.part.now c.args.at.now.arriving c.args.at.now.row.now.items c.args.known.now key_columns are c.requires.laid c.key_columns.dims.items c.key_columns.key_column-index c.key_columns.place c.key_columns.invariant c.in-Some-pinned.fixed c.key_columns-test.true so in
    let x : c.key_columns.place * c.dim_size.result ≡ c.key_columns.place * dim_size (get_or key_columns c.key_columns.key_column-index bare).dim = ap (λ k. c.key_columns.place * k) c.dim_size.ensures in
    omega (arith, fits, x)

pub overflow_add-place : goal.overflow_add-place
overflow_add-place c =
    let pinned = c.requires.prepared.pinned c.args.at.now.arriving (Some c.in-Some.listed.now) c.in-Some.ensures.0 in
    let key_columns = c.as_slice-key_column-items.result.now in
    let are = same-key_columns c.args.at.now.part.now c.args.at.now.arriving c.in-Some.listed.now.place (length c.args.known.now) c.in-Some.listed.now.key_columns.items key_columns c.in-Some.ensures.1 c.as_slice-key_column-items.ensures.value pinned.key_columns in
    let fits64 : SFits w64 c.value_at-value.result = search rules in
    let same : to_z w64 (of_z w64 c.value_at-value.result) ≡ c.value_at-value.result = omega (arith, ints) in
    let so = key_column-fixes (pairs c.args.at.now.q.now) c.args.at.now.part.now c.args.at.now.arriving c.args.at.now.row.now.items c.args.known.now (get_or key_columns c.key_columns.key_column-index bare) c.in-Some-pinned.fixed (are.each c.key_columns.key_column-index bare c.key_columns-test.true)
    (c.in-Some-pinned.ensures.0 ∙ ap (narrowed_to (get_or key_columns c.key_columns.key_column-index bare).dim) (same ∙ c.value_at-value.ensures ∙ ap (λ (row : List ℤ). by_column row (get_or key_columns c.key_columns.key_column-index bare).column.column) c.as_slice.ensures.value)) c.in-Some-pinned.ensures.1 in
    let fits = key_column-fits (pairs c.args.at.now.q.now) c.args.at.now.part.now c.args.at.now.arriving c.args.at.now.row.now.items c.args.known.now key_columns are c.requires.laid c.key_columns.dims.items c.key_columns.key_column-index c.key_columns.place c.key_columns.invariant c.in-Some-pinned.fixed c.key_columns-test.true so in
    let x : c.key_columns.place * c.dim_size.result ≡ c.key_columns.place * dim_size (get_or key_columns c.key_columns.key_column-index bare).dim = ap (λ k. c.key_columns.place * k) c.dim_size.ensures in
    omega (arith, fits, x, c.offset_of.ensures)

pub key_columns-preserved : goal.key_columns-preserved
key_columns-preserved c =
    let pinned = c.requires.prepared.pinned c.args.at.now.arriving (Some c.in-Some.listed.now) c.in-Some.ensures.0 in
    let key_columns = c.as_slice-key_column-items.result.now in
    let are = same-key_columns c.args.at.now.part.now c.args.at.now.arriving c.in-Some.listed.now.place (length c.args.known.now) c.in-Some.listed.now.key_columns.items key_columns c.in-Some.ensures.1 c.as_slice-key_column-items.ensures.value pinned.key_columns in
    let fits64 : SFits w64 c.value_at-value.result = search rules in
    let same : to_z w64 (of_z w64 c.value_at-value.result) ≡ c.value_at-value.result = omega (arith, ints) in
    let so = key_column-fixes (pairs c.args.at.now.q.now) c.args.at.now.part.now c.args.at.now.arriving c.args.at.now.row.now.items c.args.known.now (get_or key_columns c.key_columns.key_column-index bare) c.in-Some-pinned.fixed (are.each c.key_columns.key_column-index bare c.key_columns-test.true)
    (c.in-Some-pinned.ensures.0 ∙ ap (narrowed_to (get_or key_columns c.key_columns.key_column-index bare).dim) (same ∙ c.value_at-value.ensures ∙ ap (λ (row : List ℤ). by_column row (get_or key_columns c.key_columns.key_column-index bare).column.column) c.as_slice.ensures.value)) c.in-Some-pinned.ensures.1 in
    let narrows : Dim → Dim = narrow c.args.at.now.arriving (length c.args.known.now) c.args.at.now.part.now.equal.items c.args.at.now.part.now.less.items (value_in (pairs c.args.at.now.q.now) c.args.at.now.part.now c.args.at.now.arriving c.args.at.now.row.now.items c.args.known.now) in
    subst (λ (m : ℕ). SoFixed narrows (map (λ (p : KeyColumn). p.dim) key_columns) c.push.new.self.items (c.key_columns.key_column-index + 1) m) (λ k. c.key_columns.place * sym c.dim_size.ensures k + sym c.offset_of.ensures k)
    (key_column-next (pairs c.args.at.now.q.now) c.args.at.now.part.now c.args.at.now.arriving c.args.at.now.row.now.items c.args.known.now key_columns are c.requires.laid c.key_columns.dims.items c.key_columns.key_column-index c.key_columns.place c.key_columns.invariant c.in-Some-pinned.fixed c.key_columns-test.true so c.push.new.self.items c.push.ensures.items)

pub overflow_add-result : goal.overflow_add-result
overflow_add-result c =
    let pinned = c.requires.prepared.pinned c.args.at.now.arriving (Some c.in-Some.listed.now) c.in-Some.ensures.0 in
    let key_columns = c.as_slice-key_column-items.result.now in
    let are = same-key_columns c.args.at.now.part.now c.args.at.now.arriving c.in-Some.listed.now.place (length c.args.known.now) c.in-Some.listed.now.key_columns.items key_columns c.in-Some.ensures.1 c.as_slice-key_column-items.ensures.value pinned.key_columns in
    let fits = numbered (pairs c.args.at.now.q.now) c.args.at.now.part.now c.args.at.now.arriving c.args.at.now.row.now.items c.args.known.now key_columns are c.requires.laid c.key_columns.dims.items c.key_columns.key_column-index c.key_columns.place c.key_columns.invariant (omega (arith, c.key_columns-test.false)) in
    let first = pinned.first ∙ ap (λ n. (stream_at c.args.at.now.part.now n).base) c.in-Some.ensures.1 in
    omega (arith, fits, first)

pub returns : goal.returns
returns c =
    let pinned = c.requires.prepared.pinned c.args.at.now.arriving (Some c.in-Some.listed.now) c.in-Some.ensures.0 in
    let key_columns = c.as_slice-key_column-items.result.now in
    let are = same-key_columns c.args.at.now.part.now c.args.at.now.arriving c.in-Some.listed.now.place (length c.args.known.now) c.in-Some.listed.now.key_columns.items key_columns c.in-Some.ensures.1 c.as_slice-key_column-items.ensures.value pinned.key_columns in
    let first = pinned.first ∙ ap (λ n. (stream_at c.args.at.now.part.now n).base) c.in-Some.ensures.1 in
    subst (λ n. AreFixed c.args.at.now.part.now (length c.args.known.now) (narrowed_dims (pairs c.args.at.now.q.now) c.args.at.now.part.now c.args.at.now.arriving c.args.at.now.row.now.items c.args.known.now) c.key_columns.dims.items (n + c.key_columns.place)) (sym first)
    (key_columns-fixed (pairs c.args.at.now.q.now) c.args.at.now.part.now c.args.at.now.arriving c.args.at.now.row.now.items c.args.known.now key_columns are c.requires.laid c.key_columns.dims.items c.key_columns.key_column-index c.key_columns.place c.key_columns.invariant (omega (arith, c.key_columns-test.false)) c.requires.other)
