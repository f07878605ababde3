use Rattle.std.proofs.Common.{◌≡◌, List, [], ◌∷◌, length, sym, ap, ◌∙◌, subst, arith}
use Rattle.sem_query.specs.declared.plan.Dim.{Dim}
use Rattle.sem_query.specs.Boxes.{box_size}
use Rattle.sem_query.specs.Plan.{stream_at, dims_at}
use Rattle.exec_pool.specs.Extents.{cells_of}
use Rattle.exec_join.specs.Beside.{last_beside, beside_dims, IsInnerBox, IsEmptyIn}
use Rattle.exec_join.proofs.BesideLaws.{inner-box, only-beside, beside-few}
use Rattle.exec_join.proofs.beside.leaves_nothing.Goals as goal

pub holds_nothing-requires-clause-inner : goal.holds_nothing-requires-clause-inner
holds_nothing-requires-clause-inner g c =
    let part = c.args.part.now in
    let place = last_beside (length part.streams.items) c.args.arriving in
    let at : c.last_beside-place.result ≡ place = c.last_beside-place.ensures ∙ ap (λ xs. last_beside (length xs) c.args.arriving) c.as_slice.ensures.value in
    let plan : c.stream_at-plan.result.now ≡ stream_at part place = c.stream_at-plan.ensures ∙ ap (stream_at part) at in
    let dims : c.as_slice-3.result.now ≡ beside_dims part c.args.arriving c.args.row.now place = c.as_slice-3.ensures.value ∙ c.beside_dims.ensures ∙ ap (beside_dims part c.args.arriving c.args.row.now) at in
    let inner = inner-box part c.args.arriving c.args.row.now place _ c.requires.laid in
    subst (λ ds. IsInnerBox ds c.as_slice-3.result.now) (ap (λ s. s.dims.items) (sym plan)) (subst (λ (ds : List Dim). IsInnerBox (dims_at part place) ds) (sym dims) inner)

pub holds_none-requires-clause-inner : goal.holds_none-requires-clause-inner
holds_none-requires-clause-inner g c =
    let part = c.args.part.now in
    let place = last_beside (length part.streams.items) c.args.arriving in
    let at : c.last_beside-place.result ≡ place = c.last_beside-place.ensures ∙ ap (λ xs. last_beside (length xs) c.args.arriving) c.as_slice.ensures.value in
    let plan : c.stream_at-plan.result.now ≡ stream_at part place = c.stream_at-plan.ensures ∙ ap (stream_at part) at in
    let whole : c.as_slice-2.result.now ≡ dims_at part place = c.as_slice-2.ensures.value ∙ ap (λ s. s.dims.items) plan in
    let only : beside_dims part c.args.arriving c.args.row.now place ≡ c.clip-left.result ∷ [] = only-beside part c.args.arriving c.args.row.now place c.as_slice-2.result.now c.as_slice-in-len1.result.now c.clip-left.result _ whole c.in-len1.len_at_least c.in-len1.len_below c.as_slice-in-len1.ensures.value c.clip-left.ensures in
    let inner = inner-box part c.args.arriving c.args.row.now place _ c.requires.laid in
    subst (λ ds. IsInnerBox ds (c.clip-left.result ∷ [])) (ap (λ s. s.dims.items) (sym plan)) (subst (λ (ds : List Dim). IsInnerBox (dims_at part place) ds) only inner)

pub returns-in-len1-clause-empty : goal.returns-in-len1-clause-empty
returns-in-len1-clause-empty g c t =
    let part = c.args.part.now in
    let place = last_beside (length part.streams.items) c.args.arriving in
    let at : c.last_beside-place.result ≡ place = c.last_beside-place.ensures ∙ ap (λ xs. last_beside (length xs) c.args.arriving) c.as_slice.ensures.value in
    let plan : c.stream_at-plan.result.now ≡ stream_at part place = c.stream_at-plan.ensures ∙ ap (stream_at part) at in
    let whole : c.as_slice-2.result.now ≡ dims_at part place = c.as_slice-2.ensures.value ∙ ap (λ s. s.dims.items) plan in
    let only : beside_dims part c.args.arriving c.args.row.now place ≡ c.clip-left.result ∷ [] = only-beside part c.args.arriving c.args.row.now place c.as_slice-2.result.now c.as_slice-in-len1.result.now c.clip-left.result _ whole c.in-len1.len_at_least c.in-len1.len_below c.as_slice-in-len1.ensures.value c.clip-left.ensures in
    subst (λ (ds : List Dim). IsEmptyIn (stream_at part place) (cells_of c.args.pool.now c.args.e.now) ds) (sym only)
    (subst (λ s. IsEmptyIn s (cells_of c.args.pool.now c.args.e.now) (c.clip-left.result ∷ [])) plan (c.holds_none.ensures.empty t))

pub returns-in-len1-clause-reads : goal.returns-in-len1-clause-reads
returns-in-len1-clause-reads g c =
    let part = c.args.part.now in
    let place = last_beside (length part.streams.items) c.args.arriving in
    let at : c.last_beside-place.result ≡ place = c.last_beside-place.ensures ∙ ap (λ xs. last_beside (length xs) c.args.arriving) c.as_slice.ensures.value in
    let plan : c.stream_at-plan.result.now ≡ stream_at part place = c.stream_at-plan.ensures ∙ ap (stream_at part) at in
    let whole : c.as_slice-2.result.now ≡ dims_at part place = c.as_slice-2.ensures.value ∙ ap (λ s. s.dims.items) plan in
    let only : beside_dims part c.args.arriving c.args.row.now place ≡ c.clip-left.result ∷ [] = only-beside part c.args.arriving c.args.row.now place c.as_slice-2.result.now c.as_slice-in-len1.result.now c.clip-left.result _ whole c.in-len1.len_at_least c.in-len1.len_below c.as_slice-in-len1.ensures.value c.clip-left.ensures in
    let few = beside-few part c.args.arriving c.args.row.now place in
    let same = ap box_size only in
    let reads = c.holds_none.ensures.reads in
    omega (arith, few, same, reads)

pub returns-clause-reads : goal.returns-clause-reads
returns-clause-reads g c =
    let part = c.args.part.now in
    let place = last_beside (length part.streams.items) c.args.arriving in
    let at : c.last_beside-place.result ≡ place = c.last_beside-place.ensures ∙ ap (λ xs. last_beside (length xs) c.args.arriving) c.as_slice.ensures.value in
    let dims : c.as_slice-3.result.now ≡ beside_dims part c.args.arriving c.args.row.now place = c.as_slice-3.ensures.value ∙ c.beside_dims.ensures ∙ ap (beside_dims part c.args.arriving c.args.row.now) at in
    let few = beside-few part c.args.arriving c.args.row.now place in
    let same = ap box_size dims in
    let reads = c.holds_nothing.ensures.reads in
    omega (arith, few, same, reads)
