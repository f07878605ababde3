-- What one part finds for a row, and which of its cells takes the row.
use Rattle.std.proofs.Common.{◌≡◌, ℕ, ◌<◌, ◌&&◌, nat_eq, cond, Bool, true, false, ℤ, List, [], ◌∷◌, length, slice_set, refl, sym, ap, ◌∙◌, arith, slice_index_or}
use Rattle.std.proofs.lemmas.Bool.Decides.{nat_tests}
use Rattle.sem_query.specs.declared.cell.Cell.{Cell}
use Rattle.sem_query.specs.declared.plan.PartPlan.{PartPlan}
use Rattle.sem_query.specs.Query.{QueryValue, IsWithinLimits}
use Rattle.sem_query.specs.Meaning.{by_column}
use Rattle.sem_query.specs.Boxes.{box_size}
use Rattle.sem_query.specs.Plan.{stream_at, dims_at}
use Rattle.sem_query.specs.Serving.{KeepsStreams}
use Rattle.sem_query.specs.Admission.{admits}
use Rattle.sem_query.specs.Cells.{row_place, dim_values, content}
use Rattle.sem_query.specs.Merge.{merged}
use Rattle.sem_query.specs.Combinations.{Reading, Found, found_in, read_from}
use Rattle.sem_query.specs.Probing.{found_beside}
use Rattle.sem_query.proofs.BoxLaws.{place-below}
use Rattle.sem_laws.proofs.Inverse.{admitted-rows-have-places}
use Rattle.sem_laws.proofs.ByPlace.{walks-find-all}
use Rattle.exec_pool.specs.declared.pool.Extent.{Extent}
use Rattle.exec_pool.specs.Extents.{PoolValue, cells_of, with_cells}
use Rattle.exec_answer_table.specs.Entries.{TableValue, with_entries}
use Rattle.exec_synopsis.specs.Premises.{HasRoom, row_cell}
use Rattle.exec_query.specs.FoundTable.{with_found, with_all}
use Rattle.exec_query.specs.CellSteps.{arrives, with_row, CanCount}

module _ (q : QueryValue) (part : PartPlan) (within : IsWithinLimits q) (keeps : KeepsStreams q part) (pos : ℕ) (here : pos < length q.from) (values : List ℤ) where
  abbrev v : ℕ → ℤ
  v = by_column values

  -- a part that admits the row finds what a walk finds, and another finds nothing
  pub found_admitted : (read : Reading) → admits q part pos v ≡ true → found_in q part read (arrives q pos values) ≡ found_beside q part read pos v
  found_admitted read e =
      walks-find-all q part within keeps read (arrives q pos values) pos here refl ∙ ap (λ b. cond b (found_beside q part read pos v) []) e

  pub found_refused : (read : Reading) → admits q part pos v ≡ false → found_in q part read (arrives q pos values) ≡ []
  found_refused read e =
      walks-find-all q part within keeps read (arrives q pos values) pos here refl ∙ ap (λ b. cond b (found_beside q part read pos v) []) e

  -- the place of an admitted row is in the box, where cells are kept
  pub place_inside : 1 < length q.from → admits q part pos v ≡ true → row_place (dims_at part pos) v < (stream_at part pos).size
  place_inside several e =
      let size = keeps.size pos here in
      let one : nat_eq (length q.from) 1 ≡ false = grind (arith, nat_tests) in
      let whole : (stream_at part pos).size ≡ box_size (dims_at part pos) = size ∙ ap (λ b. cond b 0 (box_size (dims_at part pos))) one in
      let b = place-below (dims_at part pos) (dim_values (dims_at part pos) v) (admitted-rows-have-places q part pos v e) in
      omega (arith, b, whole)

  -- its cell can count one row more
  pub own_room : (cells : List Cell) → CanCount part (read_from cells) → 1 < length q.from → admits q part pos v ≡ true
      → HasRoom (slice_index_or cells (row_cell part pos values) Cell.Empty)
  own_room cells room several e =
      room pos (row_place (dims_at part pos) v) (omega (arith, here, keeps.count)) (place_inside several e)

-- a table to which nothing was added
pub none_added : (d : Bool) (fs : List Found) (table : TableValue) → fs ≡ [] → table ≡ with_entries table (with_all d fs table.entries)
unfolding with_all
none_added d fs table e = ap (λ (gs : List Found). with_entries table (with_all d gs table.entries)) (sym e)

-- a table to which the one find was added
pub one_added : (d : Bool) (f : Found) (fs : List Found) (table more : TableValue) → fs ≡ f ∷ []
    → more ≡ with_entries table (with_found d f table.entries) → more ≡ with_entries table (with_all d fs table.entries)
unfolding with_all
one_added d f fs table more e is = is ∙ ap (λ (gs : List Found). with_entries table (with_all d gs table.entries)) (sym e)

-- a table to which all was added that a part found
pub all_added : (d : Bool) (fs gs : List Found) (table more : TableValue) → gs ≡ fs
    → more ≡ with_entries table (with_all d fs table.entries) → more ≡ with_entries table (with_all d gs table.entries)
all_added d fs gs table more e is = is ∙ ap (λ (hs : List Found). with_entries table (with_all d hs table.entries)) (sym e)

-- the pool after a part that does not admit the row
pub row_refused : (takes : Bool) (q : QueryValue) (part : PartPlan) (pos : ℕ) (values : List ℤ) (extent : Extent) (pool : PoolValue)
    → admits q part pos (by_column values) ≡ false → pool ≡ with_row takes q part pos values extent pool
row_refused takes q part pos values extent pool e =
    sym (ap (λ b. cond (b && takes) (with_cells pool extent (slice_set (cells_of pool extent) (row_cell part pos values) (merged (stream_at part pos).kind (slice_index_or (cells_of pool extent) (row_cell part pos values) Cell.Empty) (content (stream_at part pos).kind (values ∷ []))))) pool) e)
