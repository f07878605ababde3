-- Merging one row into any cells.
use Rattle.std.proofs.Common.{◌≡◌, ℕ, zero, suc, ◌+◌, ◌<◌, ◌==◌, ◌&&◌, nat_eq, List, [], ◌∷◌, length, cond, Bool, true, false, refl, sym, ap, ◌∙◌, subst, arith, Some, slice_get, slice_index_or}
use Rattle.sem_query.specs.declared.cell.Cell.{Cell}
use Rattle.sem_query.specs.declared.plan.Kind.{Kind}
use Rattle.sem_query.specs.declared.plan.PartPlan.{PartPlan}
use Rattle.sem_query.specs.Query.{QueryValue}
use Rattle.sem_query.specs.Meaning.{Arrival, by_column}
use Rattle.sem_query.specs.Plan.{stream_at, dims_at, Follow}
use Rattle.sem_query.specs.Admission.{admits}
use Rattle.sem_query.specs.Cells.{row_place, content, cell_of, synopsis}
use Rattle.sem_query.specs.Combinations.{read_from}
use Rattle.sem_query.specs.Merge.{merged, kinds_of, merged_cells, merge}
use Rattle.sem_query.specs.Numbers.{cell_count}
use Rattle.sem_query.proofs.Has.{Has, first, later}
use Rattle.sem_laws.specs.Places.{IsBox}
use Rattle.sem_laws.specs.Growth.{RowsMerge}
use Rattle.sem_laws.proofs.LaidOut.{laid-out-at}
use Rattle.sem_laws.proofs.Numbering.{laid-out-length, boxes-are-apart}
use Rattle.sem_laws.proofs.Inserting.{inserts-row}

pub merged-length : (ks : List Kind) (cs ds : List Cell) → length ks ≡ length cs → length cs ≡ length ds
    → length (merged_cells ks cs ds) ≡ length cs
merged-length [] [] ds e f = refl
merged-length [] (c ∷ cs) ds e f = absurd (omega (arith, e))
merged-length (k ∷ ks) [] ds e f = absurd (omega (arith, e))
merged-length (k ∷ ks) (c ∷ cs) [] e f = absurd (omega (arith, f))
merged-length (k ∷ ks) (c ∷ cs) (d ∷ ds) e f = omega (arith, merged-length ks cs ds (omega (arith, e)) (omega (arith, f)))

pub merged-at : (ks : List Kind) (cs ds : List Cell) (k : Kind) (n : ℕ) → length ks ≡ length cs → length cs ≡ length ds → n < length cs
    → slice_index_or (merged_cells ks cs ds) n Cell.Empty ≡ merged (slice_index_or ks n k) (slice_index_or cs n Cell.Empty) (slice_index_or ds n Cell.Empty)
merged-at [] cs ds k n e f l = absurd (omega (arith, e, l))
merged-at (o ∷ ks) [] ds k n e f l = absurd (omega (arith, e))
merged-at (o ∷ ks) (c ∷ cs) [] k n e f l = absurd (omega (arith, f))
merged-at (o ∷ ks) (c ∷ cs) (d ∷ ds) k zero e f l = refl
merged-at (o ∷ ks) (c ∷ cs) (d ∷ ds) k (suc n) e f l =
    merged-at ks cs ds k n (omega (arith, e)) (omega (arith, f)) (omega (arith, l))

pub content-none : (k : Kind) → content k [] ≡ Cell.Empty
content-none Kind.Count = refl
content-none Kind.Present = refl
content-none (Kind.Least a) = refl
content-none (Kind.Greatest a) = refl

pub merged-empty : (k : Kind) (c : Cell) → merged k c Cell.Empty ≡ c
merged-empty k Cell.Empty = refl
merged-empty k (Cell.Count n) = refl
merged-empty k Cell.Present = refl
merged-empty Kind.Count (Cell.Extreme z) = refl
merged-empty Kind.Present (Cell.Extreme z) = refl
merged-empty (Kind.Least a) (Cell.Extreme z) = refl
merged-empty (Kind.Greatest a) (Cell.Extreme z) = refl

pub merged-if : (k : Kind) (c x e : Cell) (b : Bool) → e ≡ Cell.Empty → merged k c (cond b (merged k e x) e) ≡ cond b (merged k c x) c
merged-if k c x e true g = ap (λ y. merged k c (merged k y x)) g
merged-if k c x e false g = ap (merged k c) g ∙ merged-empty k c

pub get-has : (plan : List PartPlan) (n : ℕ) (p : PartPlan) → slice_get plan n ≡ Some p → Has plan p
get-has [] n p e = absurd cc
get-has (o ∷ plan) zero p e = let h : o ≡ p = cc in subst (λ z. Has (o ∷ plan) z) h first
get-has (o ∷ plan) (suc n) p e = later (get-has plan n p e)

module _ (q : QueryValue) (plan : List PartPlan) (f : Follow 0 plan) (cells : List Cell) (whole : length cells ≡ cell_count plan) (r : Arrival) where
  abbrev own : List Cell
  own = synopsis q plan (r ∷ [])

  kinds : length (kinds_of plan) ≡ length cells
  kinds = laid-out-length (λ part place i. (stream_at part place).kind) plan ∙ sym whole

  owns : length cells ≡ length own
  unfolding synopsis
  owns = whole ∙ sym (laid-out-length (cell_of q (r ∷ [])) plan)

  size : length (merge plan cells own) ≡ cell_count plan
  unfolding merge
  size = merged-length (kinds_of plan) cells own kinds owns ∙ whole

  own-at : (n : ℕ) (part : PartPlan) (place i : ℕ) → IsBox plan n part place i
      → slice_index_or own ((stream_at part place).base + i) Cell.Empty ≡ cell_of q (r ∷ []) part place i
  unfolding synopsis
  own-at n part place i b =
      laid-out-at (cell_of q (r ∷ [])) plan f part (get-has plan n part b.at) place i b.there b.inside Cell.Empty

  kind-at : (n : ℕ) (part : PartPlan) (place i : ℕ) → IsBox plan n part place i
      → slice_index_or (kinds_of plan) ((stream_at part place).base + i) Kind.Count ≡ (stream_at part place).kind
  kind-at n part place i b =
      laid-out-at (λ part place i. (stream_at part place).kind) plan f part (get-has plan n part b.at) place i b.there b.inside Kind.Count

  merges-at : (n : ℕ) (part : PartPlan) (place i : ℕ) → IsBox plan n part place i
      → read_from (merge plan cells own) part place i
      ≡ cond ((r.stream == slice_index_or q.from place 0) && (admits q part place (by_column r.values) && nat_eq (row_place (dims_at part place) (by_column r.values)) i))
      (merged (stream_at part place).kind (read_from cells part place i) (content (stream_at part place).kind (r.values ∷ [])))
      (read_from cells part place i)
  unfolding merge
  merges-at n part place i b =
      let below : (stream_at part place).base + i < length cells
      = (let s = (boxes-are-apart plan f).0 n part place b.at b.there in omega (arith, s, b.inside, whole)) in
      merged-at (kinds_of plan) cells own Kind.Count ((stream_at part place).base + i) kinds owns below
      ∙ (λ j. merged (kind-at n part place i b j) (read_from cells part place i) ((own-at n part place i b ∙ inserts-row q [] r part place i) j))
      ∙ merged-if (stream_at part place).kind (read_from cells part place i) (content (stream_at part place).kind (r.values ∷ [])) (cell_of q [] part place i) _ (content-none (stream_at part place).kind)

pub rows-merge : RowsMerge
rows-merge q plan f cells whole r = record { size = size q plan f cells whole r; at = merges-at q plan f cells whole r }
