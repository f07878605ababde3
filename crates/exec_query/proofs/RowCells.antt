-- The cells after a row: the merge of the cells before with the row's own, each of its kind, counting at most one row more.
use Rattle.std.proofs.Common.{◌≡◌, ℕ, ◌+◌, ◌-◌, nat_eq, slice_index_or, All, ◌<◌, ◌≤◌, ◌^◌, ◌&&◌, cond, Bool, true, false, ℤ, List, [], ◌∷◌, ◌++◌, length, take, drop, sym, ap, ◌∙◌, arith, Some, Contains}
use Rattle.std.proofs.lemmas.Bool.Decides.{nat_tests}
use Rattle.std.proofs.lemmas.List.{get_or-take, get_or-drop, length-drop, take_all, length-take-le, take-append-drop}
use Rattle.std.proofs.lemmas.Option.{slice_get-get_or}
use Rattle.sem_query.specs.declared.cell.Cell.{Cell}
use Rattle.sem_query.specs.declared.plan.Kind.{Kind}
use Rattle.sem_query.specs.declared.plan.PartPlan.{PartPlan}
use Rattle.sem_query.specs.Query.{QueryValue}
use Rattle.sem_query.specs.Meaning.{Arrival}
use Rattle.sem_query.specs.Plan.{stream_at}
use Rattle.sem_query.specs.Serving.{KeepsStreams}
use Rattle.sem_query.specs.Cells.{content, FitsKind}
use Rattle.sem_query.specs.Combinations.{read_from}
use Rattle.sem_query.specs.Merge.{merged}
use Rattle.sem_query.specs.Sharing.{Box, sizes_in, synopsis_in, merge_in}
use Rattle.sem_query.proofs.Has.{Has-from_contains, Contains-from_has}
use Rattle.sem_laws.specs.Sharing.{AreBoxesOf}
use Rattle.sem_laws.specs.Places.{IsBox}
use Rattle.sem_laws.proofs.Tests.{any_if}
use Rattle.sem_laws.proofs.Numbering.{same-lists}
use Rattle.sem_laws.proofs.BoxReadings.{rows-merge-in, boxes-meet-whole, boxes-fix-cells}
use Rattle.exec_pool.specs.declared.pool.Extent.{Extent}
use Rattle.exec_pool.specs.Extents.{PoolValue, cells_of, with_cells}
use Rattle.exec_synopsis.specs.Premises.{HasRoom}
use Rattle.exec_synopsis.proofs.CallerLemmas.{fits-merged}
use Rattle.exec_query.specs.CellSteps.{lies, IsInserted, HasTaken}
use Rattle.exec_part_index.specs.Owners.{has_base}
use Rattle.exec_query.proofs.Inserting.{get_has}
use Rattle.exec_query.specs.Standing.{CountsUpto}

-- lists that agree from a number on
drop-same : (n : ℕ) (xs ys : List Cell) → length xs ≡ length ys → ((k : ℕ) → n ≤ k → slice_index_or xs k Cell.Empty ≡ slice_index_or ys k Cell.Empty) → drop n xs ≡ drop n ys
drop-same n xs ys e h = same-lists (drop n xs) (drop n ys) Cell.Empty (length-drop n xs ∙ ap (λ m. m - n) e ∙ sym (length-drop n ys)) (λ k l.
    get_or-drop n xs k Cell.Empty ∙ h (n + k) (omega arith) ∙ sym (get_or-drop n ys k Cell.Empty))

module _ (q : QueryValue) (plan : List PartPlan) (plans : All (KeepsStreams q) plan) (list : List Box) (of : AreBoxesOf q plan list) where
  -- a box reads only the cells of the plan
  pub read_cut : (cells : List Cell) (part : PartPlan) → Contains plan part → (place i : ℕ) → place < length part.streams.items → i < (stream_at part place).size
      → read_from (take (sizes_in list) cells) part place i ≡ read_from cells part place i
  read_cut cells part c place i l k =
      let s = (boxes-meet-whole q plan plans list of).0 part c place l in
      get_or-take (sizes_in list) cells ((stream_at part place).base + i) Cell.Empty (omega (arith, s, k))

  -- the number of a part of the plan
  pub box_of : (part : PartPlan) (c : Contains plan part) (place i : ℕ) → place < length part.streams.items → i < (stream_at part place).size → IsBox plan c.0 part place i
  box_of part c place i l s = record {
    at = slice_get-get_or plan c.0 part c.1 ∙ ap (λ (p : PartPlan). Some p) c.2;
    there = l;
    inside = s;
  }

  module _ (r : Arrival) (cells others : List Cell) (whole : sizes_in list ≤ length cells) (put : IsInserted q plan r (length plan) cells others) where
    size : length (take (sizes_in list) cells) ≡ sizes_in list
    size = length-take-le (sizes_in list) cells whole

    -- all parts took it
    reached : (part : PartPlan) → Contains plan part → (place : ℕ) → has_base (take (length plan) plan) part place ≡ true
    reached part c place =
        let k : nat_eq (stream_at part place).base (stream_at part place).base ≡ true = grind (arith, nat_tests) in
        ap (λ (ps : List PartPlan). has_base ps part place) (take_all (length plan) plan (omega arith))
        ∙ any_if (λ (p : PartPlan). nat_eq (stream_at p place).base (stream_at part place).base) plan part (Has-from_contains plan part c) k

    -- what stands in a box then
    pub read_after : (part : PartPlan) → Contains plan part → (place i : ℕ) → place < length part.streams.items → i < (stream_at part place).size
        → read_from (take (sizes_in list) others) part place i
        ≡ cond (lies q r part place i) (merged (stream_at part place).kind (read_from (take (sizes_in list) cells) part place i) (content (stream_at part place).kind (r.values ∷ []))) (read_from (take (sizes_in list) cells) part place i)
    read_after part c place i l k =
        read_cut others part c place i l k
        ∙ put.at c.0 part place i (box_of part c place i l k)
        ∙ ap (λ t. cond (t && lies q r part place i) (merged (stream_at part place).kind (read_from cells part place i) (content (stream_at part place).kind (r.values ∷ []))) (read_from cells part place i)) (reached part c place)
        ∙ ap (λ c. cond (lies q r part place i) (merged (stream_at part place).kind c (content (stream_at part place).kind (r.values ∷ []))) c) (sym (read_cut cells part c place i l k))

    -- the cells are the merge
    pub merged_is : take (sizes_in list) others ≡ merge_in list (take (sizes_in list) cells) (synopsis_in q list (r ∷ []))
    merged_is =
        let law = rows-merge-in q plan plans list of (take (sizes_in list) cells) size r in
        boxes-fix-cells q plan plans list of (take (sizes_in list) others) (merge_in list (take (sizes_in list) cells) (synopsis_in q list (r ∷ [])))
        (length-take-le (sizes_in list) others (let s = put.size in omega (arith, s, whole))) law.size
        (λ part c place i l k. read_after part c place i l k ∙ sym (law.at part c place i l k))

    -- and those behind them are as before
    pub rest_is : drop (sizes_in list) others ≡ drop (sizes_in list) cells
    rest_is = drop-same (sizes_in list) others cells put.size (λ k l. put.rest k (λ m part place i b e.
        let s = (boxes-meet-whole q plan plans list of).0 part (Contains-from_has plan part (get_has plan m part b.at)) place b.there in
        let n = b.inside in omega (arith, s, n, e, l)))

  -- the pool after all parts took the row
  pub pool_is : (e : Extent) (r : Arrival) (before after : PoolValue) → sizes_in list ≤ length (cells_of before e)
      → HasTaken q plan e r (length plan) before after
      → after ≡ with_cells before e (merge_in list (take (sizes_in list) (cells_of before e)) (synopsis_in q list (r ∷ [])) ++ drop (sizes_in list) (cells_of before e))
  pool_is e r before after whole taken =
      taken.only
      ∙ ap (with_cells before e) (
      sym (take-append-drop (sizes_in list) (cells_of after e))
      ∙ (λ j. merged_is r (cells_of before e) (cells_of after e) whole taken.inserted j ++ rest_is r (cells_of before e) (cells_of after e) whole taken.inserted j))

-- a cell counts at most one row more
counts_kept : (n : ℕ) (c : Cell) → CountsUpto n c → CountsUpto (n + 1) c
counts_kept n Cell.Empty h = tt
counts_kept n (Cell.Count m) h = omega (arith, h)
counts_kept n Cell.Present h = tt
counts_kept n (Cell.Extreme z) h = tt

counts_merged : (n : ℕ) (kind : Kind) (c : Cell) (row : List ℤ) → FitsKind kind c → CountsUpto n c → CountsUpto (n + 1) (merged kind c (content kind (row ∷ [])))
counts_merged n Kind.Count Cell.Empty row f h = omega arith
counts_merged n Kind.Present Cell.Empty row f h = tt
counts_merged n (Kind.Least a) Cell.Empty row f h = tt
counts_merged n (Kind.Greatest a) Cell.Empty row f h = tt
counts_merged n Kind.Count (Cell.Count m) row f h = omega (arith, h)
counts_merged n Kind.Present (Cell.Count m) row f h = absurd f
counts_merged n (Kind.Least a) (Cell.Count m) row f h = absurd f
counts_merged n (Kind.Greatest a) (Cell.Count m) row f h = absurd f
counts_merged n Kind.Count Cell.Present row f h = absurd f
counts_merged n Kind.Present Cell.Present row f h = tt
counts_merged n (Kind.Least a) Cell.Present row f h = absurd f
counts_merged n (Kind.Greatest a) Cell.Present row f h = absurd f
counts_merged n Kind.Count (Cell.Extreme z) row f h = absurd f
counts_merged n Kind.Present (Cell.Extreme z) row f h = absurd f
counts_merged n (Kind.Least a) (Cell.Extreme z) row f h = tt
counts_merged n (Kind.Greatest a) (Cell.Extreme z) row f h = tt

-- there is room for one row more
pub room_kept : (n : ℕ) (c : Cell) → n < 2 ^ 40 → CountsUpto n c → HasRoom c
room_kept n Cell.Empty l h = tt
room_kept n (Cell.Count m) l h = omega (arith, l, h)
room_kept n Cell.Present l h = tt
room_kept n (Cell.Extreme z) l h = tt

-- a cell that took the row or did not is of its kind
pub kept_by : (b : Bool) (n : ℕ) (kind : Kind) (c : Cell) (row : List ℤ) → n < 2 ^ 40 → FitsKind kind c → CountsUpto n c
    → FitsKind kind (cond b (merged kind c (content kind (row ∷ []))) c) × CountsUpto (n + 1) (cond b (merged kind c (content kind (row ∷ []))) c)
kept_by true n kind c row l f h = (fits-merged kind c row f (room_kept n c l h), counts_merged n kind c row f h)
kept_by false n kind c row l f h = (f, counts_kept n c h)
