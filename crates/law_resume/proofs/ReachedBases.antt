-- What is kept of a live query: after creation, after a row, and after a line that tells a part of it.
use Rattle.std.proofs.Common.{◌≡◌, ℕ, ◌<◌, ◌≤◌, ◌^◌, inl, inr, Bool, true, false, cond, not, ◌&&◌, nat_eq, int_le, nat_abs, ℤ, pos, List, [], ◌∷◌, length, slice_set, slice_index_or, Option, Some, None, option_and_then, option_map, refl, sym, ◌∙◌, subst, arith, AllPairs}
use Rattle.std.specs.List.{list_any, AllByRecursion}
use Rattle.std.proofs.lemmas.Bool.Decides.{nat_tests}
use Rattle.std.proofs.lemmas.Int.{ints}
use Rattle.std.proofs.lemmas.List.{length-replicate, length-set}
use Rattle.sem_query.specs.declared.cell.Cell.{Cell}
use Rattle.sem_query.specs.declared.plan.Plan.{Plan}
use Rattle.sem_query.specs.declared.plan.Plan.TheVariants as plans
use Rattle.sem_query.specs.Query.{QueryValue, IsWithinLimits}
use Rattle.sem_query.specs.Meaning.{Arrival}
use Rattle.sem_query.specs.Tuples.{is_before, is_same}
use Rattle.sem_query.specs.Combinations.{read_from}
use Rattle.sem_query.specs.Future.{waiting, future}
use Rattle.sem_query.specs.Merge.{merged_table}
use Rattle.sem_query.specs.Numbers.{parts_of}
use Rattle.sem_query.specs.Ranges.{all_tuples}
use Rattle.sem_query.specs.Sharing.{Box, sizes_in}
use Rattle.sem_query.specs.Bases.{Base, first_base, kept_row}
use Rattle.sem_query.proofs.Has.{Has, Has-from_contains, Contains-from_has}
use Rattle.sem_laws.proofs.AnyCells.{waiting-fits}
use Rattle.sem_laws.proofs.OnePartFits.{has_cases}
use Rattle.sem_laws.proofs.Order.{same-is}
use Rattle.sem_laws.proofs.SharedCells.{into-size}
use Rattle.sem_laws.proofs.Tests.{and-left, and-right, any_from, not_both}
use Rattle.sem_forms.specs.Forms.{IsServingForm}
use Rattle.exec_query.specs.CellSteps.{HasParts}
use Rattle.exec_restore.specs.Loadable.{is_empty, kind_at, filled_cell}
use Rattle.exec_query.specs.Loading.{loaded_given, loaded_cell, loaded_tuple}
use Rattle.exec_query.proofs.Answered.{filter_plain}
use Rattle.exec_query.proofs.PlanFacts.{has_parts}
use Rattle.exec_registry.specs.Live.{boxes_for}
use Rattle.cmd_session.specs.Requests.{natural_upto}
use Rattle.law_resume.proofs.ReachedCells.{AreKeptCells, first_kept, more_kept, row_kept, told_kept, set_kept}
use Rattle.law_resume.proofs.ReachedRanges.{Fits}
use Rattle.law_resume.proofs.ReachedTables.{merged_ascends, merged_has, future_waits}

-- the cells are those of the boxes, and the tuples ascend and lie in the ranges of some part; without DISTINCT there are none
pub record IsKeptBase (q : QueryValue) (shared : Bool) (plan : Plan) (base : Base) : Type 0 where
  pub whole : length base.cells ≡ sizes_in (boxes_for q shared plan)
  pub cells : AreKeptCells (boxes_for q shared plan) base.given base.cells
  pub ascends : AllPairs (λ t u. is_before t u ≡ true) base.table
  pub inside : (t : List ℤ) → Has base.table t → Has (all_tuples q (parts_of plan)) t
  pub plain : q.distinct ≡ false → base.table ≡ []

none_ascend : AllPairs (λ (t u : List ℤ). is_before t u ≡ true) []
none_ascend i j d l m = absurd (omega (arith, m))

only : (t z : List ℤ) → Has (t ∷ []) z → t ≡ z
only t z m = elim (has_cases t z [] m) [ inl e ↦ e | inr n ↦ elim n [ ] ]

-- a natural number that is told and not above this one
upto_is : (most : ℕ) (z : ℤ) (n : ℕ) → natural_upto most z ≡ Some n → n ≤ most
upto_is most z n e = by (int_le z (pos most)) (int_le (pos 0) z) refl refl e
  where
    by : (b c : Bool) → int_le z (pos most) ≡ b → int_le (pos 0) z ≡ c → cond b (cond c (Some (nat_abs z)) None) None ≡ Some n → n ≤ most
    by true true h k f =
        let is : nat_abs z ≡ n = cc in
        let l : nat_abs z ≤ most = grind (arith, ints, h, k) in
        omega (arith, is, l)
    by true false h k f = absurd cc
    by false c h k f = absurd cc

module _ (q : QueryValue) (shared : Bool) (plan : Plan) where
  abbrev list : List Box
  list = boxes_for q shared plan

  pub first_is_kept : IsKeptBase q shared plan (first_base list)
  first_is_kept = record {
    whole = length-replicate (sizes_in list) Cell.Empty;
    cells = first_kept list;
    ascends = none_ascend;
    inside = λ t h. elim h [ ];
    plain = λ e. refl;
  }

  -- the tuples after a row
  module _ (within : IsWithinLimits q) (is : IsServingForm shared q plan) where
    future_inside : (p : Plan) → HasParts q p → q.distinct ≡ true → (cells : List Cell) (table : List (List ℤ)) (r : Arrival) (t : List ℤ)
        → Has (future q (parts_of p) (read_from cells) table r) t → Has (all_tuples q (parts_of p)) t
    future_inside plans.Filter has distinct cells table r t h = absurd (not_both q.distinct distinct (filter_plain q has))
    future_inside (plans.Parts parts numbers) has distinct cells table r t h =
        Has-from_contains (all_tuples q parts) t
        (waiting-fits q parts within has.1.serves (read_from cells) r t (Contains-from_has (waiting q parts (read_from cells) r) t (future_waits q parts (read_from cells) table r t has.0 h)))

    row_table : (base : Base) (r : Arrival) → IsKeptBase q shared plan base → (b : Bool) → q.distinct ≡ b
        → AllPairs (λ t u. is_before t u ≡ true) (cond b (merged_table base.table (future q (parts_of plan) (read_from base.cells) base.table r)) [])
        × ((t : List ℤ) → Has (cond b (merged_table base.table (future q (parts_of plan) (read_from base.cells) base.table r)) []) t → Has (all_tuples q (parts_of plan)) t)
        × (q.distinct ≡ false → cond b (merged_table base.table (future q (parts_of plan) (read_from base.cells) base.table r)) [] ≡ [])
    row_table base r k true e =
        let more : List (List ℤ) = future q (parts_of plan) (read_from base.cells) base.table r in (
          merged_ascends base.table more,
          (λ t h. elim (merged_has base.table more t h) [
            | inl m ↦ k.inside t m
            | inr m ↦ future_inside plan (has_parts shared q plan is) e base.cells base.table r t m
          ]),
          (λ f. absurd (not_both q.distinct e f)),
        )
    row_table base r k false e = (none_ascend, (λ t h. elim h [ ]), (λ f. refl))

    pub row_is_kept : (base : Base) (r : Arrival) → base.given < 2 ^ 40 → AllByRecursion Fits r.values → IsKeptBase q shared plan base → IsKeptBase q shared plan (kept_row q (parts_of plan) list base r)
    row_is_kept base r few fit k =
        let table = row_table base r k q.distinct refl in
        record {
          whole = into-size q list base.cells k.whole (r ∷ []);
          cells = row_kept q list base.given few r fit base.cells k.whole k.cells;
          ascends = table.0;
          inside = table.1;
          plain = table.2;
        }

  -- a number of rows is told
  pub given_is_kept : (base : Base) (taken : ℕ) (z : ℤ) (b : Base) → IsKeptBase q shared plan base → option_and_then (λ n. loaded_given n base) (natural_upto taken z) ≡ Some b
      → IsKeptBase q shared plan b × (b.given ≤ taken)
  given_is_kept base taken z b k e = of (natural_upto taken z) refl e
    where
      set : (n : ℕ) → n ≤ taken → (c : Bool) → nat_eq base.given 0 ≡ c → cond c (Some (record base { given = n })) None ≡ Some b → IsKeptBase q shared plan b × (b.given ≤ taken)
      set n l true t f =
          (let o : Base = record base { given = n } in
          let same : o ≡ b = cc in
          let none : base.given ≡ 0 = grind (arith, nat_tests, t) in
          let new : IsKeptBase q shared plan o = record {
            whole = k.whole;
            cells = more_kept list base.given n base.cells (omega (arith, none)) k.cells;
            ascends = k.ascends;
            inside = k.inside;
            plain = k.plain;
          } in
          subst (λ (x : Base). IsKeptBase q shared plan x × (x.given ≤ taken)) same (new, l))
      set n l false t f = absurd cc

      of : (p : Option ℕ) → natural_upto taken z ≡ p → option_and_then (λ n. loaded_given n base) p ≡ Some b → IsKeptBase q shared plan b × (b.given ≤ taken)
      of None m f = absurd cc
      of (Some n) m f = set n (upto_is taken z n m) (nat_eq base.given 0) refl f

  -- a cell is told
  cell_set : (base : Base) (n : ℕ) (v : ℤ) (b : Base) → base.given ≤ 2 ^ 40 → Fits v → IsKeptBase q shared plan base
      → (o : Option Cell) → option_and_then (λ kind. filled_cell base.given kind v) (kind_at list n) ≡ o → option_map (λ c. record base { cells = slice_set base.cells n c }) o ≡ Some b
      → IsKeptBase q shared plan b × (b.given ≡ base.given)
  cell_set base n v b few fit k None told e = absurd cc
  cell_set base n v b few fit k (Some c) told e =
      (let o : Base = record base { cells = slice_set base.cells n c } in
      let same : o ≡ b = cc in
      let new : IsKeptBase q shared plan o = record {
        whole = length-set base.cells n c ∙ k.whole;
        cells = set_kept list base.given n base.cells c k.whole k.cells (told_kept list base.given n v c few fit told);
        ascends = k.ascends;
        inside = k.inside;
        plain = k.plain;
      } in
      subst (λ (x : Base). IsKeptBase q shared plan x × (x.given ≡ base.given)) same (new, refl))

  pub cell_is_kept : (base : Base) (v : ℤ) (p : Option ℕ) (b : Base) → base.given ≤ 2 ^ 40 → Fits v → IsKeptBase q shared plan base → option_and_then (λ n. loaded_cell list n v base) p ≡ Some b
      → IsKeptBase q shared plan b × (b.given ≡ base.given)
  cell_is_kept base v None b few fit k e = absurd cc
  cell_is_kept base v (Some n) b few fit k e = by (is_empty (slice_index_or base.cells n Cell.Present)) e
    where
      told : Option Cell
      told = option_and_then (λ kind. filled_cell base.given kind v) (kind_at list n)

      by : (c : Bool) → cond c (option_map (λ x. record base { cells = slice_set base.cells n x }) told) None ≡ Some b → IsKeptBase q shared plan b × (b.given ≡ base.given)
      by true f = cell_set base n v b few fit k told refl f
      by false f = absurd cc

  -- a printed tuple is told
  pub tuple_is_kept : (base : Base) (t : List ℤ) (b : Base) → IsKeptBase q shared plan base → loaded_tuple q (parts_of plan) t base ≡ Some b
      → IsKeptBase q shared plan b × (b.given ≡ base.given)
  tuple_is_kept base t b k e = by (q.distinct && (among && not (list_any (is_same t) base.table))) refl e
    where
      among : Bool
      among = list_any (is_same t) (all_tuples q (parts_of plan))

      by : (c : Bool) → (q.distinct && (among && not (list_any (is_same t) base.table))) ≡ c → cond c (Some (record base { table = merged_table base.table (t ∷ []) })) None ≡ Some b
          → IsKeptBase q shared plan b × (b.given ≡ base.given)
      by true h f =
          (let o : Base = record base { table = merged_table base.table (t ∷ []) } in
          let same : o ≡ b = cc in
          let distinct : q.distinct ≡ true = and-left _ (among && not (list_any (is_same t) base.table)) h in
          let both = and-right q.distinct (among && not (list_any (is_same t) base.table)) h in
          let m = any_from (is_same t) (all_tuples q (parts_of plan)) (and-left _ (not (list_any (is_same t) base.table)) both) in
          let own : Has (all_tuples q (parts_of plan)) t = subst (λ z. Has (all_tuples q (parts_of plan)) z) (sym (same-is t m.0 m.2)) m.1 in
          let new : IsKeptBase q shared plan o = record {
            whole = k.whole;
            cells = k.cells;
            ascends = merged_ascends base.table (t ∷ []);
            inside = λ z i. elim (merged_has base.table (t ∷ []) z i) [
              | inl l ↦ k.inside z l
              | inr l ↦ subst (λ x. Has (all_tuples q (parts_of plan)) x) (only t z l) own
            ];
            plain = λ n. absurd (not_both q.distinct distinct n);
          } in
          subst (λ (x : Base). IsKeptBase q shared plan x × (x.given ≡ base.given)) same (new, refl))
      by false h f = absurd cc
