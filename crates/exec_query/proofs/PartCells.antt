-- The pool while the parts take a row, one after the other.
use Rattle.std.proofs.Common.{◌≡◌, ℕ, suc, ◌+◌, ◌<◌, ◌&&◌, nat_eq, not, slice_index_or, nat_lt, cond, Bool, true, false, ℤ, List, [], ◌∷◌, ◌++◌, length, take, drop, set, get_or, refl, sym, ap, ◌∙◌, subst, arith, slice_get, Option, Some, None, inl, inr, length-set, Contains}
use Rattle.std.proofs.lemmas.List.{set-get_or, take_more, take-append-drop}
use Rattle.std.proofs.lemmas.List.Sums.{sum_by_more}
use Rattle.std.proofs.lemmas.Option.{slice_get_within, get_or_from_slice_get}
use Rattle.std.proofs.Math.Seq.{drop-cons}
use Rattle.sem_query.specs.declared.cell.Cell.{Cell}
use Rattle.sem_query.specs.declared.plan.Kind.{Kind}
use Rattle.sem_query.specs.declared.plan.PartPlan.{PartPlan}
use Rattle.sem_query.specs.Query.{QueryValue}
use Rattle.sem_query.specs.Meaning.{Arrival, by_column}
use Rattle.sem_query.specs.Plan.{stream_at, dims_at}
use Rattle.sem_query.specs.Admission.{admits}
use Rattle.sem_query.specs.Cells.{row_place, content, FitsKind}
use Rattle.sem_query.specs.Merge.{merged}
use Rattle.exec_query.specs.Reads.{most_reads, row_reads}
use Rattle.sem_query.specs.Combinations.{read_from, Reading, Found, found_in}
use Rattle.sem_query.proofs.Has.{Contains-from_has}
use Rattle.sem_laws.proofs.Tests.{and-left, and-right, true_or_false, nat_true}
use Rattle.exec_pool.specs.declared.pool.Extent.{Extent}
use Rattle.exec_pool.specs.Extents.{PoolValue, cells_of, with_cells, IsLive}
use Rattle.exec_pool.proofs.CallerLemmas.{cells_of_with, live_with, written_again}
use Rattle.exec_synopsis.specs.Premises.{HasRoom, IsReady, row_cell}
use Rattle.exec_query.specs.CellSteps.{arrives, all_found, with_row, lies, IsInserted, HasTaken, CanCount, AreReady}
use Rattle.exec_part_index.specs.Owners.{has_base, takes_rows}
use Rattle.exec_part_index.proofs.Owning.{first-has, has-several}
use Rattle.exec_query.proofs.Founds.{AgreeBeside, found-beside, all_found-append}
use Rattle.exec_query.proofs.InPart.{place_inside}
use Rattle.exec_query.proofs.HeldParts.{held-part}
use Rattle.exec_synopsis.proofs.CallerLemmas.{fits-merged}
use Rattle.exec_answer_table.specs.Entries.{TableValue, with_entries}
use Rattle.exec_query.specs.FoundTable.{with_all, HaveRoom}
use Rattle.exec_query.proofs.TableLaws.{with_all-append, room_first, room_then}
use Rattle.exec_query.proofs.Inserting.{inserted_start, inserted_nothing, inserted_row, part_plan, one_place, get_has}

-- the pool with the cells that it has
pub with_own : (p : PoolValue) (e : Extent) → IsLive p e → p ≡ with_cells p e (cells_of p e)
with_own p e live =
    let same : p.extents ≡ set p.extents e.slot (Some (cells_of p e))
    = sym (set-get_or p.extents e.slot None) ∙ ap (set p.extents e.slot) live.live in
    ap (λ (xs : List (Option (List Cell))). let o : PoolValue = record { pages = p.pages; free = p.free; lent = p.lent; extents = xs } in o) same

-- before the first part
pub taken_start : (q : QueryValue) (plan : List PartPlan) (e : Extent) (r : Arrival) (p : PoolValue) → IsLive p e → HasTaken q plan e r 0 p p
taken_start q plan e r p live = record {
  live = live;
  only = with_own p e live;
  inserted = inserted_start q plan r (cells_of p e);
}

fits_if : (b : Bool) (kind : Kind) (c : Cell) (row : List ℤ) → FitsKind kind c → HasRoom c → FitsKind kind (cond b (merged kind c (content kind (row ∷ []))) c)
fits_if true kind c row f h = fits-merged kind c row f h
fits_if false kind c row f h = f

module _ (q : QueryValue) (plan : List PartPlan) (e : Extent) (pos : ℕ) (here : pos < length q.from) (values : List ℤ) (before : PoolValue) (ready : AreReady q plan before e) where
  abbrev r : Arrival
  r = arrives q pos values

  module _ (n : ℕ) (part : PartPlan) (at_n : slice_get plan n ≡ Some part) (now : PoolValue) (taken : HasTaken q plan e r n before now) where
    contained : Contains plan part
    contained = Contains-from_has plan part (get_has plan n part at_n)

    -- the cells of the part at a place are as before, unless an earlier part took the row into its box there
    pub same_at : (place i : ℕ) → place < length q.from → i < (stream_at part place).size → (has_base (take n plan) part place && lies q r part place i) ≡ false
        → read_from (cells_of now e) part place i ≡ read_from (cells_of before e) part place i
    same_at place i l k none =
        let c = (part_plan q plan ready.limits ready.plan n part at_n).count in
        let there : place < length part.streams.items = omega (arith, c, l) in
        taken.inserted.at n part place i record { at = at_n; there = there; inside = k }
        ∙ ap (λ t. cond t (merged (stream_at part place).kind (read_from (cells_of before e) part place i) (content (stream_at part place).kind (values ∷ []))) (read_from (cells_of before e) part place i)) none

    -- so are those of the streams beside the row's
    pub same_beside : AgreeBeside q part r (read_from (cells_of now e)) (read_from (cells_of before e))
    same_beside place i l o k = same_at place i l k (sym (falls (has_base (take n plan) part place) (lies q r part place i) (ap (λ b. b && (admits q part place (by_column values) && nat_eq (row_place (dims_at part place) (by_column values)) i)) o)))
      where
        falls : (a b : Bool) → b ≡ false → false ≡ (a && b)
        falls true b h = sym h
        falls false b h = refl

    -- and all, where the part is the first that has its box at the row's place
    pub same_owned : has_base (take n plan) part pos ≡ false → (place i : ℕ) → place < length q.from → i < (stream_at part place).size
        → read_from (cells_of now e) part place i ≡ read_from (cells_of before e) part place i
    same_owned own place i l k = same_at place i l k (elim (true_or_false (lies q r part place i)) [
      | inr f ↦ sym (falls (has_base (take n plan) part place) (lies q r part place i) f)
      | inl t ↦ (
          let p : place ≡ pos = one_place q plan ready.limits ready.plan place pos l here (sym (nat_true (slice_index_or q.from pos 0) (slice_index_or q.from place 0) (and-left _ _ t))) in
          ap (λ (o : ℕ). has_base (take n plan) part o && lies q r part place i) p ∙ ap (λ b. b && lies q r part place i) own)
    ])
      where
        falls : (a b : Bool) → b ≡ false → false ≡ (a && b)
        falls true b h = sym h
        falls false b h = refl

    -- the next part
    pub taken_step : (takes : Bool) → takes ≡ takes_rows q plan pos n part → (after : PoolValue) → after ≡ with_row takes q part pos values e now
        → HasTaken q plan e r (n + 1) before after
    taken_step takes owner after is = elim (true_or_false (admits q part pos (by_column values) && takes)) [
      | inl t ↦ one t (is ∙ ap (λ b. cond b (with_cells now e xs) now) t)
      | inr f ↦ none f (is ∙ ap (λ b. cond b (with_cells now e xs) now) f)
    ]
      where
        cell : Cell
        cell =
            merged (stream_at part pos).kind (get_or (cells_of now e) (row_cell part pos values) Cell.Empty) (content (stream_at part pos).kind (values ∷ []))

        xs : List Cell
        xs = set (cells_of now e) (row_cell part pos values) cell

        both_ways : (a b c : Bool) → (a && (b && c)) ≡ (a && (c && b))
        both_ways true true true = refl
        both_ways true true false = refl
        both_ways true false true = refl
        both_ways true false false = refl
        both_ways false b c = refl

        none : (admits q part pos (by_column values) && takes) ≡ false → after ≡ now → HasTaken q plan e r (n + 1) before after
        none f same =
            subst (λ p. HasTaken q plan e r (n + 1) before p) (sym same) record {
              live = taken.live;
              only = taken.only;
              inserted =
                  inserted_nothing q plan ready.limits ready.plan ready.meet pos here values n part at_n (cells_of before e) (cells_of now e) taken.inserted (not (has_base (take n plan) part pos)) refl
                  (both_ways (admits q part pos (by_column values)) (not (has_base (take n plan) part pos)) (nat_lt 1 (length q.from)) ∙ ap (λ b. admits q part pos (by_column values) && b) (sym owner) ∙ f);
            }

        one : (admits q part pos (by_column values) && takes) ≡ true → after ≡ with_cells now e xs → HasTaken q plan e r (n + 1) before after
        one t same =
            let a : admits q part pos (by_column values) ≡ true = and-left (admits q part pos (by_column values)) _ t in
            let o : takes_rows q plan pos n part ≡ true = sym owner ∙ and-right (admits q part pos (by_column values)) takes t in
            let several : 1 < length q.from = has-several q plan part pos n o in
            let unreached : has_base (take n plan) part pos ≡ false = first-has q plan part pos n o in
            let cells : cells_of after e ≡ xs = ap (λ p. cells_of p e) same ∙ cells_of_with now e xs taken.live in
            let below : row_cell part pos values < length (cells_of now e) = (
            let s = taken.live.pages in
            let w = ready.within in
            let b = ready.inside part contained pos here in
            let i = place_inside q part ready.limits (part_plan q plan ready.limits ready.plan n part at_n) pos here values several a in omega (arith, s, w, b, i)) in
            record {
              live = subst (λ p. IsLive p e) (sym same) (live_with now e xs taken.live (length-set (cells_of now e) (row_cell part pos values) cell));
              only =
                  written_again before now after e (cells_of now e) (row_cell part pos values) cell ready.live taken.only same ∙ ap (with_cells before e) (sym cells);
              inserted =
                  subst (λ ys. IsInserted q plan r (n + 1) (cells_of before e) ys) (sym cells)
                  (inserted_row q plan ready.limits ready.plan ready.meet pos here values n part at_n (cells_of before e) (cells_of now e) taken.inserted a unreached several below);
            }

    -- the part's cells are those of its kinds, and can count one row more
    pub ready_part : IsReady q part now e
    ready_part =
        record {
          held = held-part q plan e before ready now taken.live part contained;
          fitting =
              λ place i l k.
              subst (FitsKind (stream_at part place).kind) (sym (taken.inserted.at n part place i record { at = at_n; there = l; inside = k }))
              (fits_if (has_base (take n plan) part place && lies q r part place i) (stream_at part place).kind (read_from (cells_of before e) part place i) values (ready.fitting part contained place i l k) (ready.room part contained place i l k));
        }

    -- and, where the part is the first that has its box at the row's place, they can count one row more
    pub room_part : has_base (take n plan) part pos ≡ false → CanCount part (read_from (cells_of now e))
    room_part own =
        λ place i l k.
        let c = (part_plan q plan ready.limits ready.plan n part at_n).count in
        subst HasRoom (sym (same_owned own place i (omega (arith, c, l)) k)) (ready.room part contained place i l k)

    abbrev first_read : Reading
    first_read = read_from (cells_of before e)

    -- what the part finds is what it finds in the cells before the row
    pub found_now : found_in q part (read_from (cells_of now e)) r ≡ found_in q part first_read r
    found_now = found-beside q part (read_from (cells_of now e)) first_read r same_beside

    split : plan ≡ take n plan ++ part ∷ drop (suc n) plan
    split =
        let l : n < length plan = slice_get_within plan n part at_n in
        sym (take-append-drop n plan)
        ∙ ap (λ xs. take n plan ++ xs) (drop-cons plan n part l ∙ ap (λ (p : PartPlan). p ∷ drop (suc n) plan) (get_or_from_slice_get plan n part part at_n))

    taken_more : take (n + 1) plan ≡ take n plan ++ part ∷ []
    taken_more =
        let l : n < length plan = slice_get_within plan n part at_n in
        take_more plan n part l ∙ ap (λ (p : PartPlan). take n plan ++ p ∷ []) (get_or_from_slice_get plan n part part at_n)

    -- there is room for it
    pub room_now : (d : Bool) (start table : TableValue)
        → HaveRoom d (all_found q plan first_read r) start
        → table ≡ with_entries start (with_all d (all_found q (take n plan) first_read r) start.entries)
        → HaveRoom d (found_in q part (read_from (cells_of now e)) r) table
    room_now d start table h is =
        let e1 : all_found q plan first_read r ≡ all_found q (take n plan) first_read r ++ (found_in q part first_read r ++ all_found q (drop (suc n) plan) first_read r)
        = ap (λ ps. all_found q ps first_read r) split ∙ all_found-append q first_read r (take n plan) (part ∷ drop (suc n) plan) in
        let k = room_then d (all_found q (take n plan) first_read r) (found_in q part first_read r ++ all_found q (drop (suc n) plan) first_read r) start (subst (λ fs. HaveRoom d fs start) e1 h) in
        let o = room_first d (found_in q part first_read r) (all_found q (drop (suc n) plan) first_read r) _ k in
        subst (λ fs. HaveRoom d fs table) (sym found_now) (subst (λ (t : TableValue). HaveRoom d (found_in q part first_read r) t) (sym is) o)

    -- the table with it
    pub table_more : (d : Bool) (start table more : TableValue)
        → table ≡ with_entries start (with_all d (all_found q (take n plan) first_read r) start.entries)
        → more ≡ with_entries table (with_all d (found_in q part (read_from (cells_of now e)) r) table.entries)
        → more ≡ with_entries start (with_all d (all_found q (take (n + 1) plan) first_read r) start.entries)
    table_more d start table more is next =
        next
        ∙ ap (λ (t : TableValue). with_entries t (with_all d (found_in q part (read_from (cells_of now e)) r) t.entries)) is
        ∙ ap (λ fs. with_entries start (with_all d fs (with_all d (all_found q (take n plan) first_read r) start.entries))) found_now
        ∙ ap (with_entries start) (sym (with_all-append d (all_found q (take n plan) first_read r) (found_in q part first_read r) start.entries))
        ∙ ap (λ fs. with_entries start (with_all d fs start.entries)) (sym more_found)
      where
        no_more : (fs : List Found) → fs ++ [] ≡ fs
        no_more [] = refl
        no_more (f ∷ fs) = ap (λ gs. f ∷ gs) (no_more fs)

        more_found : all_found q (take (n + 1) plan) first_read r ≡ all_found q (take n plan) first_read r ++ found_in q part first_read r
        more_found =
            ap (λ ps. all_found q ps first_read r) taken_more ∙ all_found-append q first_read r (take n plan) (part ∷ [])
            ∙ ap (λ fs. all_found q (take n plan) first_read r ++ fs) (no_more (found_in q part first_read r))

    -- the reads in the parts so far
    pub work_more : row_reads (take (n + 1) plan) ≡ row_reads (take n plan) + most_reads part
    work_more =
        let l : n < length plan = slice_get_within plan n part at_n in
        sum_by_more most_reads plan n part l ∙ ap (λ (p : PartPlan). row_reads (take n plan) + most_reads p) (get_or_from_slice_get plan n part part at_n)
