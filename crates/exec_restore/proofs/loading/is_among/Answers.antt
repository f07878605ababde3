use Rattle.std.proofs.Common.{◌≡◌, ◌∙◌, ◌&&◌, map, sym, ap}
use Rattle.std.specs.List.{list_any}
use Rattle.sem_query.specs.Ranges.{different, range_of, at_column}
use Rattle.exec_restore.specs.Loadable.{are_inside}
use Rattle.exec_restore.proofs.ListedTuples.{among-by}
use Rattle.exec_restore.proofs.loading.is_among.Goals as goal

pub returns-then-not-is_spelled : goal.returns-then-not-is_spelled
returns-then-not-is_spelled c =
    let listed : c.as_slice-columns.result.now ≡ different c.args.q.now.select
    = c.as_slice-columns.ensures.value ∙ c.different-listed.ensures.columns ∙ ap different c.select.ensures.value in
    let told : c.as_slice-values.result.now ≡ map (at_column c.args.q.now.select c.args.t.now.items) (different c.args.q.now.select)
    = c.as_slice-values.ensures.value ∙ c.put_values.ensures ∙ (λ j. map (at_column (c.select-2.ensures.value j) (c.as_slice.ensures.value j)) (listed j)) in
    let whole = among-by c.args.q.now c.args.parts.now c.args.t.now.items c.as_slice-columns.result.now c.as_slice-values.result.now listed told in
    ap (λ b. b && list_any (λ part. are_inside (map (range_of c.args.q.now part) c.as_slice-columns.result.now) c.as_slice-values.result.now) c.args.parts.now) (sym c.if-not-is_spelled.true ∙ c.is_spelled.ensures)
    ∙ whole

pub returns : goal.returns
returns c =
    let listed : c.as_slice-columns.result.now ≡ different c.args.q.now.select
    = c.as_slice-columns.ensures.value ∙ c.different-listed.ensures.columns ∙ ap different c.select.ensures.value in
    let told : c.as_slice-values.result.now ≡ map (at_column c.args.q.now.select c.args.t.now.items) (different c.args.q.now.select)
    = c.as_slice-values.ensures.value ∙ c.put_values.ensures ∙ (λ j. map (at_column (c.select-2.ensures.value j) (c.as_slice.ensures.value j)) (listed j)) in
    let whole = among-by c.args.q.now c.args.parts.now c.args.t.now.items c.as_slice-columns.result.now c.as_slice-values.result.now listed told in
    c.lie_somewhere.ensures
    ∙ ap (λ b. b && list_any (λ part. are_inside (map (range_of c.args.q.now part) c.as_slice-columns.result.now) c.as_slice-values.result.now) c.args.parts.now) (sym c.if-not-is_spelled.false ∙ c.is_spelled.ensures)
    ∙ whole
