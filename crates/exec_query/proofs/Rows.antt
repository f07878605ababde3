-- What holds of an executor after it took a row.
use Rattle.std.proofs.Common.{◌≡◌, ℕ, min, ◌+◌, ◌*◌, ◌<◌, ◌≤◌, ◌^◌, ◌==◌, cond, Bool, true, false, ℤ, List, [], ◌∷◌, ◌++◌, length, refl, sym, ap, ◌∙◌, subst, arith, All, Contains, length-append, inl, inr, ◌⊎◌}
use Rattle.std.specs.List.{list_any}
use Rattle.std.specs.Option.{option_to_list}
use Rattle.std.proofs.lemmas.List.{length-map, length-take-le}
use Rattle.std.proofs.lemmas.List.Elements.{All-contains}
use Rattle.sem_query.specs.declared.cell.Cell.{Cell}
use Rattle.sem_query.specs.declared.plan.PartPlan.{PartPlan}
use Rattle.sem_query.specs.declared.plan.Plan.{Plan}
use Rattle.sem_query.specs.declared.plan.Plan.TheVariants as plan
use Rattle.sem_query.specs.Query.{QueryValue, is_filter}
use Rattle.sem_query.specs.Tuples.{sorted, new_tuples}
use Rattle.sem_query.specs.Meaning.{Arrival, new_answers}
use Rattle.sem_query.specs.Filter.{filter_tuple}
use Rattle.sem_query.specs.Plan.{stream_at}
use Rattle.sem_query.specs.Serving.{KeepsStreams}
use Rattle.sem_query.specs.Cells.{printed, FitsKind}
use Rattle.sem_query.specs.Combinations.{Reading, Found, found_in, read_from}
use Rattle.sem_query.specs.Bases.{Base, kept_row}
use Rattle.sem_laws.specs.Closed.{IsSaturated, own_place, own_content}
use Rattle.exec_saturation.specs.Known.{AreSaturated}
use Rattle.sem_laws.proofs.Saturated.{saturated-cells-answer-nothing-new}
use Rattle.sem_laws.proofs.ClosedTables.{cells-stay-saturated}
use Rattle.sem_query.specs.Future.{waiting, future}
use Rattle.sem_query.specs.Merge.{merged, merged_table}
use Rattle.sem_query.specs.Numbers.{parts_of, pages_of}
use Rattle.sem_query.specs.Sharing.{Box, kept_boxes, sizes_in, synopsis_in, merge_in}
use Rattle.sem_laws.specs.Probing.{AreWithin}
use Rattle.sem_laws.specs.Sharing.{AreBoxesOf}
use Rattle.sem_laws.specs.Bases.{IsKept}
use Rattle.sem_query.proofs.Has.{Has, Has-from_contains, Contains-from_has}
use Rattle.sem_laws.specs.Growth.{occurs}
use Rattle.sem_laws.proofs.Tests.{true_or_false}
use Rattle.sem_laws.proofs.Counts.{times}
use Rattle.sem_laws.proofs.Order.{Rises}
use Rattle.sem_laws.proofs.Interleaving.{occurs-is, counts-fit}
use Rattle.sem_laws.proofs.Merge.{printed-grows}
use Rattle.sem_laws.proofs.SharedCells.{boxes-merge}
use Rattle.sem_laws.proofs.Bases.{suffices}
use Rattle.sem_laws.proofs.Keeping.{rows-more-keep}
use Rattle.sem_query.specs.Domains.{RowKeeps}
use Rattle.exec_pool.specs.Extents.{PoolValue, cells_of}
use Rattle.exec_synopsis.specs.Premises.{AreFitting, HasRoom}
use Rattle.exec_answer_table.specs.Entries.{Entry, TableValue, entry_of, with_entries, Ascends, waiting_of, tuples_of}
use Rattle.exec_saturation.specs.declared.saturation.Saturation.TheVariants as saturation
use Rattle.exec_query.specs.Executor.{ExecutorValue, list_in, cells_in, tuples_in, waiting_in, IsSound, with_given, cleared}
use Rattle.exec_query.specs.Standing.{StandsFor, CountsUpto, AreKept, KeepsWithin, IsReady, future_in, pool_with, TookRow}
use Rattle.exec_query.specs.FoundTable.{with_all, HaveRoom}
use Rattle.exec_query.specs.CellSteps.{arrives, answered_by, HasParts, HasTaken, IsPlanReady, CanCount, AnswersNothingNew}
use Rattle.exec_part_index.specs.Leaving.{LeavesCell}
use Rattle.sem_forms.specs.Forms.{IsServingForm}
use Rattle.exec_query.proofs.InPart.{place_inside}
use Rattle.exec_query.proofs.OldAnswers.{has-cleared}
use Rattle.exec_query.proofs.Closing.{distinct-plan, closed-all}
use Rattle.exec_query.proofs.Inserting.{get_has}
use Rattle.exec_query.proofs.Founds.{Agree, found-same}
use Rattle.exec_query.proofs.Spelled.{spelled_is}
use Rattle.exec_query.proofs.Answered.{future-rises, cleared-ascends}
use Rattle.exec_query.proofs.Room.{all_within}
use Rattle.exec_query.proofs.RowAnswers.{answered_ones, waits_row, tuples_row, ascends_row, room_row, lie_row}
use Rattle.exec_query.proofs.RowCells.{read_cut, read_after, merged_is, rest_is, pool_is, room_kept, kept_by}
use Rattle.exec_query.proofs.PlanFacts.{serving_in, has_parts, parts_keep, boxes_of_plan, kept_is, inside_of, cells_of_plan, plan_ready, answered-same}
use Rattle.exec_query.proofs.Keeping.{keeps}

-- without DISTINCT the future answers do not look at the table
pub future-table : (q : QueryValue) (plan : List PartPlan) (read : Reading) (t u : List (List ℤ)) (r : Arrival) → q.distinct ≡ false
    → future q plan read t r ≡ future q plan read u r
unfolding future
future-table q plan read t u r d =
    λ j. cond (is_filter q) (option_to_list (filter_tuple q r)) (cond (list_any (λ stream. r.stream == stream) q.from) (same j) [])
  where
    kept : List (List ℤ) → Bool → List (List ℤ)
    kept table b = cond b (sorted (new_tuples table (waiting q plan read r))) (sorted (waiting q plan read r))

    same : kept t q.distinct ≡ kept u q.distinct
    same = ap (kept t) d ∙ sym (ap (kept u) d)

module _ (e : ExecutorValue) (sound : IsSound e) (pool : PoolValue) (ready : IsReady e pool) (r : Arrival) (a : Ascends e.table.entries) where
  abbrev q : QueryValue
  q = e.query

  abbrev parts : List PartPlan
  parts = parts_of e.plan

  abbrev all_cells : List Cell
  all_cells = cells_of pool e.extent

  abbrev found : List Found
  found = answered_by q e.plan (read_from all_cells) r

  abbrev now : List Entry
  now = with_all q.distinct found (cleared q.distinct e.table.entries)

  abbrev later : ExecutorValue
  later = with_given e (e.given + 1) now

  abbrev list : List Box
  list = list_in e

  has : HasParts q e.plan
  has = has_parts e.shared q e.plan (serving_in e sound)

  is_kept : IsKept q parts list
  is_kept = kept_is e.shared q e.plan (serving_in e sound)

  pub plans : All (KeepsStreams q) parts
  plans = parts_keep e.shared q e.plan (serving_in e sound)

  of : AreBoxesOf q parts list
  of = boxes_of_plan e.shared q e.plan (serving_in e sound)

  plan_cells : (sizes_in list ≤ 64 * pages_of e.plan) × (sizes_in list < 2 ^ 32)
  plan_cells = cells_of_plan e.shared q e.plan (serving_in e sound) sound.accepted.within

  whole : sizes_in list ≤ length all_cells
  whole = let c = plan_cells.0 in let l = ready.kept.live.pages in let p = sound.pages in omega (arith, c, l, p)

  -- the cells of the plan are read alike among all cells
  cut : (part : PartPlan) → Contains parts part → (place i : ℕ) → place < length part.streams.items → i < (stream_at part place).size
      → read_from (cells_in e pool) part place i ≡ read_from all_cells part place i
  cut part c place i l s = read_cut q parts plans list of all_cells part c place i l s

  fitting : (part : PartPlan) → Contains parts part → AreFitting part (read_from all_cells)
  fitting part c place i l s = subst (FitsKind (stream_at part place).kind) (cut part c place i l s) (ready.kept.fitting part c place i l s)

  room_cells : (part : PartPlan) → Contains parts part → CanCount part (read_from all_cells)
  room_cells part c place i l s = subst HasRoom (cut part c place i l s) (room_kept e.given _ ready.few (ready.kept.counts part c place i l s))

  pub ready_row : IsPlanReady q e.plan pool e.extent
  ready_row =
      plan_ready e.shared q e.plan sound.limits (serving_in e sound) sound.accepted.within pool e.extent sound.pages ready.kept.live fitting room_cells

  pub room : HaveRoom q.distinct found (with_entries e.table (cleared q.distinct e.table.entries))
  room =
      room_row q sound.limits (read_from all_cells) r e.table sound.width a e.plan has sound.capacity sound.tuples
      (λ part k. fitting part (Contains-from_has parts part k))

  -- the table after what waited was given up and all that is answered was taken up
  pub table_later : (d : Bool) → d ≡ q.distinct → (clear more : TableValue) → clear ≡ with_entries e.table (cleared d e.table.entries)
      → more ≡ with_entries clear (with_all q.distinct found clear.entries) → more ≡ with_entries e.table now
  table_later d same clear more is next =
      next
      ∙ ap (λ (t : TableValue). with_entries t (with_all q.distinct found t.entries)) (is ∙ ap (λ b. with_entries e.table (cleared b e.table.entries)) same)

  pub room_clear : (d : Bool) → d ≡ q.distinct → (clear : TableValue) → clear ≡ with_entries e.table (cleared d e.table.entries) → HaveRoom q.distinct found clear
  room_clear d same clear is = subst (HaveRoom q.distinct found) (sym (is ∙ ap (λ b. with_entries e.table (cleared b e.table.entries)) same)) room

  ascends : Ascends now
  ascends = ascends_row q e.plan has (read_from all_cells) r e.table.entries a

  few_cleared : (d : Bool) → length (cleared d e.table.entries) ≤ e.table.capacity
  few_cleared true = (let n = length-map e.table.entries (λ (x : Entry). entry_of x.tuple 0) in let f = sound.entries in let c = sound.capacity in omega (arith, n, f, c))
  few_cleared false = omega arith

  entries : length now ≤ e.table.capacity
  entries = all_within q.distinct found (with_entries e.table (cleared q.distinct e.table.entries)) (cleared-ascends q.distinct e.table.entries a) room (few_cleared q.distinct)

  -- what is true of each executor is true of it
  pub sound_later : IsSound later
  sound_later = record {
    limits = sound.limits;
    accepted = sound.accepted;
    pages = sound.pages;
    width = sound.width;
    capacity = sound.capacity;
    given = (let f = ready.few in omega (arith, f));
    entries = (let n = entries in let c = sound.capacity in omega (arith, n, c));
    ascends = ascends;
    tuples =
        lie_row q sound.limits (read_from all_cells) r e.table sound.width a e.plan has sound.tuples
        (λ part k. fitting part (Contains-from_has parts part k));
  }

  pub agree : (part : PartPlan) → Has parts part → Agree part (length q.from) (read_from all_cells) (read_from (cells_in e pool))
  agree part k place i l s =
      let c : Contains parts part = Contains-from_has parts part k in
      let n = (All-contains (KeepsStreams q) parts part plans c).count in sym (cut part c place i (omega (arith, n, l)) s)

  -- what is answered is what the cells of the plan answer
  same_found : found ≡ answered_by q e.plan (read_from (cells_in e pool)) r
  same_found = answered-same q e.plan (read_from all_cells) (read_from (cells_in e pool)) r agree

  -- where the table is closed over the cells, a row that leaves its cell as it is is answered nothing new
  pub nothing-new : (known : Bool) → (known ≡ true → e.saturation ≡ saturation.All) → (known ≡ true → q.distinct ≡ true) → (known ≡ true → 1 < length q.from)
      → (es : List Entry) → es ≡ cleared q.distinct e.table.entries → known ≡ true → AnswersNothingNew q parts (read_from all_cells) es
  nothing-new known all once several es is so = record {
    once = once so;
    several = several so;
    old = λ part k pos values here admitted leaves f c.
        let d = once so in
        let dp = distinct-plan e sound d in
        let own : KeepsStreams q part = All-contains (KeepsStreams q) parts part plans k in
        let there : pos < length part.streams.items = (let n = own.count in omega (arith, n, here)) in
        let i : ℕ = own_place part pos values in
        let l : i < (stream_at part pos).size = place_inside q part sound.limits own pos here values (several so) admitted in
        let same : read_from (cells_in e pool) part pos i ≡ read_from all_cells part pos i = cut part k pos i there l in
        let fits : AreFitting part (read_from (cells_in e pool)) = ready.kept.fitting part k in
        let stays : LeavesCell part (read_from (cells_in e pool)) pos values
        = ap (λ (x : Cell). merged (stream_at part pos).kind x (own_content part pos values)) same ∙ leaves ∙ sym same in
        let found_cut : found_in q part (read_from all_cells) (arrives q pos values) ≡ found_in q part (read_from (cells_in e pool)) (arrives q pos values)
        = found-same q part (read_from all_cells) (read_from (cells_in e pool)) (arrives q pos values) (agree part (Has-from_contains parts part k)) in
        let among : Contains (tuples_in e) f.tuple
        = saturated-cells-answer-nothing-new q parts dp part k (read_from (cells_in e pool)) fits (tuples_in e) (arrives q pos values) pos here refl l stays
        (closed-all e.saturation q parts (read_from (cells_in e pool)) (tuples_in e) (all so) (ready.kept.saturated d) part k pos i here l) f (subst (λ fs. Contains fs f) found_cut c) in
        has-cleared f.tuple q.distinct e.table.entries es d is among;
  }

  inside : AreWithin (length q.from) (sizes_in list) parts
  inside = within_of e.plan (serving_in e sound)
    where
      within_of : (p : Plan) → IsServingForm e.shared q p → AreWithin (length q.from) (sizes_in (kept_boxes e.shared q (parts_of p))) (parts_of p)
      within_of plan.Filter h = λ part k. elim (Has-from_contains [] part k) [ ]
      within_of (plan.Parts list numbers) h = inside_of e.shared q list h.1 h.2

  ones : q.distinct ≡ true → All (λ (f : Found). f.count ≡ 1) found
  ones d =
      answered_ones q sound.limits d (read_from all_cells) r e.plan has (sizes_in list) inside plan_cells.1
      (λ part k. fitting part (Contains-from_has parts part k))

  -- how often each tuple waits
  pub waits : (z : List ℤ) → waiting_of z now ≡ min (occurs z (future_in e pool r)) (2 ^ 127)
  waits z =
      ap (λ fs. waiting_of z (with_all q.distinct fs (cleared q.distinct e.table.entries))) same_found
      ∙ waits_row q e.plan has (read_from (cells_in e pool)) r e.table.entries a
      (λ d. subst (All (λ (f : Found). f.count ≡ 1)) same_found (ones d)) z

  -- the tuples with DISTINCT
  pub tuples : q.distinct ≡ true → tuples_of now ≡ merged_table (tuples_in e) (future_in e pool r)
  tuples d =
      ap (λ fs. tuples_of (with_all q.distinct fs (cleared q.distinct e.table.entries))) same_found
      ∙ tuples_row q e.plan has (read_from (cells_in e pool)) r e.table.entries a (subst (All (λ (f : Found). f.count ≡ 1)) same_found (ones d)) d

  module _ (after : PoolValue) (taken : HasTaken q parts e.extent r (length parts) pool after) where
    -- the pool
    pub cells : after ≡ pool_with e pool r
    cells = pool_is q parts plans list of e.extent r pool after whole taken

    -- the cells of the plan
    cells_later : cells_in later after ≡ merge_in list (cells_in e pool) (synopsis_in q list (r ∷ []))
    cells_later = merged_is q parts plans list of r all_cells (cells_of after e.extent) whole taken.inserted

    -- each cell is of its kind, and counts at most one row more
    kept_at : (part : PartPlan) → Contains parts part → (place i : ℕ) → place < length part.streams.items → i < (stream_at part place).size
        → FitsKind (stream_at part place).kind (read_from (cells_in later after) part place i) × CountsUpto (e.given + 1) (read_from (cells_in later after) part place i)
    kept_at part c place i l s =
        let kind = (stream_at part place).kind in
        subst (λ x. FitsKind kind x × CountsUpto (e.given + 1) x) (sym (read_after q parts plans list of r all_cells (cells_of after e.extent) whole taken.inserted part c place i l s))
        (kept_by _ e.given kind (read_from (cells_in e pool) part place i) r.values ready.few (ready.kept.fitting part c place i l s) (ready.kept.counts part c place i l s))

    -- each cell that was saturated is
    stay : q.distinct ≡ true → AreSaturated e.saturation q parts (read_from (cells_in e pool)) (tuples_in e) → AreSaturated e.saturation q parts (read_from (cells_in later after)) (tuples_of now)
    stay d was n part there place i l m is =
        let k : Contains parts part = Contains-from_has parts part (get_has parts n part there) in
        let base : Base = record { cells = cells_in e pool; table = tuples_in e; given = e.given } in
        let size : length base.cells ≡ sizes_in list = length-take-le (sizes_in list) all_cells whole in
        let table : tuples_of now ≡ (kept_row q parts list base r).table = tuples d ∙ sym (ap (λ b. cond b (merged_table (tuples_in e) (future_in e pool r)) []) d) in
        subst (λ (cs : List Cell). IsSaturated q part (read_from cs) (tuples_of now) place i) (sym cells_later)
        (subst (λ (ts : List (List ℤ)). IsSaturated q part (read_from (kept_row q parts list base r).cells) ts place i) (sym table)
        ((cells-stay-saturated q parts (distinct-plan e sound d) list of base r size).stay part k place i l m (was n part there place i l m is)))

    pub kept : AreKept later after
    kept = record {
      live = taken.live;
      fitting = λ part c place i l s. (kept_at part c place i l s).0;
      counts = λ part c place i l s. (kept_at part c place i l s).1;
      saturated = λ d. stay d (ready.kept.saturated d);
    }

    -- it keeps within its announced numbers where it did
    pub within : KeepsWithin e pool → KeepsWithin later after
    within w = keeps later sound_later after taken.live (rest_is q parts plans list of r all_cells (cells_of after e.extent) whole taken.inserted ∙ w.rest)

    -- over a history
    module _ (keeps : RowKeeps q r) (history : List Arrival) (stands : StandsFor e pool history) where
      table : List (List ℤ)
      table = tuples_in e

      future_is : future_in e pool r ≡ new_answers q history r
      future_is =
          ap (λ cs. future q parts (read_from cs) (tuples_in e) r) stands.cells
          ∙ by (true_or_false q.distinct)
          ∙ suffices q parts list sound.limits is_kept history r stands.rows keeps
        where
          by : (q.distinct ≡ true) ⊎ (q.distinct ≡ false)
              → future q parts (read_from (synopsis_in q list history)) (tuples_in e) r ≡ future q parts (read_from (synopsis_in q list history)) (printed q history) r
          by (inl d) = ap (λ ts. future q parts (read_from (synopsis_in q list history)) ts r) (stands.tuples d)
          by (inr d) = future-table q parts (read_from (synopsis_in q list history)) (tuples_in e) (printed q history) r d

      few : length history ≤ 2 ^ 40
      few = let f = ready.few in let g = stands.given in omega (arith, f, g)

      waits_times : (z : List ℤ) → waiting_of z now ≡ times z (new_answers q history r)
      waits_times z =
          let bound = counts-fit q sound.limits history r z few in
          waits z ∙ ap (λ ts. min (occurs z ts) (2 ^ 127)) future_is
          ∙ (let small : min (occurs z (new_answers q history r)) (2 ^ 127) ≡ occurs z (new_answers q history r) = omega (arith, bound) in small)
          ∙ occurs-is z (new_answers q history r)

      waiting_is : waiting_in later ≡ new_answers q history r
      waiting_is =
          spelled_is now (new_answers q history r) ascends
          (subst Rises future_is (future-rises q (read_from (cells_in e pool)) (tuples_in e) r e.plan has)) waits_times

      stands_later : StandsFor later after (history ++ r ∷ [])
      stands_later = record {
        live = taken.live;
        cells =
            cells_later ∙ ap (λ cs. merge_in list cs (synopsis_in q list (r ∷ []))) stands.cells
            ∙ sym (boxes-merge q list history (r ∷ []));
        rest = rest_is q parts plans list of r all_cells (cells_of after e.extent) whole taken.inserted ∙ stands.rest;
        given = (let g = stands.given in let n : length (history ++ r ∷ []) ≡ length history + 1 = length-append history (r ∷ []) in omega (arith, g, n));
        rows = rows-more-keep q history r stands.rows keeps;
        tuples =
            λ d. tuples d ∙ (λ j. merged_table (stands.tuples d j) (future_is j)) ∙ sym (printed-grows q history r sound.limits d);
      }

    pub history : RowKeeps q r → TookRow e pool r later after
    history keeps h stands = (waiting_is keeps h stands, stands_later keeps h stands)
