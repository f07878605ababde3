-- What a filter without DISTINCT does to a row.
use Rattle.std.proofs.Common.{◌≡◌, ◌+◌, ◌&&◌, cond, length, Bool, true, false, ℤ, List, [], ◌∷◌, map, refl, sym, ap, ◌∙◌, subst, Option, Some, None}
use Rattle.std.specs.List.{list_all}
use Rattle.std.specs.Option.{option_to_list}
use Rattle.sem_query.specs.declared.plan.Plan.{Plan}
use Rattle.sem_query.specs.declared.plan.Plan.TheVariants as plan
use Rattle.sem_query.specs.Query.{QueryValue}
use Rattle.sem_query.specs.Assignment.{meets}
use Rattle.sem_query.specs.Meaning.{Arrival, assignment_of, by_column}
use Rattle.sem_query.specs.Domains.{RowKeeps}
use Rattle.sem_query.specs.Filter.{filter_tuple}
use Rattle.sem_query.specs.Combinations.{Reading, Found, read_from}
use Rattle.sem_query.specs.Numbers.{parts_of}
use Rattle.exec_pool.specs.declared.pool.Extent.{Extent}
use Rattle.exec_pool.specs.Extents.{PoolValue, cells_of}
use Rattle.exec_answer_table.specs.Entries.{Entry, TableValue, entry_of, with_entries, changed}
use Rattle.exec_filter.specs.declared.prefilter.Prefilter.{Prefilter}
use Rattle.exec_filter.specs.declared.plain_filter.PlainFilter.{PlainFilter}
use Rattle.exec_filter.specs.Prefilter.{IsPrefilter, IsRefused, passes}
use Rattle.exec_filter.specs.PlainFilter.{IsPlainFilter, plain_filter_meets}
use Rattle.exec_query.specs.Executor.{ExecutorValue, IsSound, cleared}
use Rattle.exec_query.specs.Standing.{IsReady}
use Rattle.exec_query.specs.FoundTable.{with_all}
use Rattle.exec_query.specs.CellSteps.{answered_by, HasTaken, IsPlanReady}
use Rattle.exec_query.specs.Row.{TakesRow}
use Rattle.exec_query.proofs.PartCells.{taken_start}
use Rattle.exec_query.proofs.Rows.{ready_row}
use Rattle.exec_query.proofs.TakenRow.{row-taken}

-- the only entry, where a filter answers
abbrev pub only_entry : Bool → List ℤ → List Entry
only_entry b t = cond b (entry_of t 1 ∷ []) []

-- what a filter answers without DISTINCT is the only entry
one_entry : (d : Bool) (o : Option (List ℤ)) (t : List ℤ) (b : Bool) (es : List Entry) → d ≡ false → o ≡ cond b (Some t) None
    → with_all d (map (λ t. let f : Found = record { tuple = t; count = 1 } in f) (option_to_list o)) (cleared d es) ≡ only_entry b t
unfolding with_all changed
one_entry d o t true es plain is =
    ap (λ c. with_all c (map (λ t. let f : Found = record { tuple = t; count = 1 } in f) (option_to_list o)) (cleared c es)) plain
    ∙ ap (λ (p : Option (List ℤ)). with_all false (map (λ t. let f : Found = record { tuple = t; count = 1 } in f) (option_to_list p)) []) is
one_entry d o t false es plain is =
    ap (λ c. with_all c (map (λ t. let f : Found = record { tuple = t; count = 1 } in f) (option_to_list o)) (cleared c es)) plain
    ∙ ap (λ (p : Option (List ℤ)). with_all false (map (λ t. let f : Found = record { tuple = t; count = 1 } in f) (option_to_list p)) []) is

-- what passes and meets the rest is answered, and what does not pass is not
either : (o : Option (List ℤ)) (t : List ℤ) (p rest : Bool) → (p ≡ true → o ≡ cond rest (Some t) None) → (p ≡ false → o ≡ None) → o ≡ cond (p && rest) (Some t) None
either o t true rest met out = met refl
either o t false rest met out = out refl

-- a filter answers just the rows that pass and meet what is left open
answers : (q : QueryValue) (p : Plan) (prefilter : Prefilter) (f : PlainFilter) → IsPrefilter q p prefilter → IsPlainFilter q p prefilter f → (r : Arrival)
    → filter_tuple q r ≡ cond (plain_filter_meets prefilter f r) (Some (map (by_column r.values) f.selected.items)) None
answers q p prefilter f filters is r =
    either (filter_tuple q r) (map (by_column r.values) f.selected.items) (passes prefilter r) (list_all (meets (assignment_of (r.values ∷ []))) f.unimplied.items)
    (is.answers r) (λ e. subst (λ x. IsRefused q x r) is.alone (filters r e))

-- the entries after a row
pub plain_entries : (q : QueryValue) (p : Plan) (prefilter : Prefilter) (f : PlainFilter) → IsPrefilter q p prefilter → IsPlainFilter q p prefilter f
    → (read : Reading) (r : Arrival) (es : List Entry)
    → with_all q.distinct (answered_by q p read r) (cleared q.distinct es) ≡ only_entry (plain_filter_meets prefilter f r) (map (by_column r.values) f.selected.items)
plain_entries q p prefilter f filters is read r es =
    ap (λ x. with_all q.distinct (answered_by q x read r) (cleared q.distinct es)) is.alone
    ∙ one_entry q.distinct (filter_tuple q r) (map (by_column r.values) f.selected.items) (plain_filter_meets prefilter f r) es is.plain (answers q p prefilter f filters is r)

-- a filter has no cells
pub filter_taken : (q : QueryValue) (p : Plan) (e : Extent) (r : Arrival) (pool : PoolValue) → p ≡ plan.Filter → IsPlanReady q p pool e → HasTaken q (parts_of p) e r (length (parts_of p)) pool pool
filter_taken q plan.Filter e r pool is ready = taken_start q [] e r pool ready
filter_taken q (plan.Parts parts numbers) e r pool is ready = absurd cc

-- the executor takes a row
module _ (e : ExecutorValue) (sound : IsSound e) (pool : PoolValue) (ready : IsReady e pool) (r : Arrival) (prefilter : Prefilter) (f : PlainFilter)
    (filters : IsPrefilter e.query e.plan prefilter) (is : IsPlainFilter e.query e.plan prefilter f) (b : Bool) (told : b ≡ plain_filter_meets prefilter f r)
    (table : TableValue) (has : table ≡ with_entries e.table (only_entry b (map (by_column r.values) f.selected.items))) where
  abbrev read : Reading
  read = read_from (cells_of pool e.extent)

  abbrev now : List Entry
  now = with_all e.query.distinct (answered_by e.query e.plan read r) (cleared e.query.distinct e.table.entries)

  same : with_entries e.table now ≡ table
  same =
      ap (with_entries e.table)
      (plain_entries e.query e.plan prefilter f filters is read r e.table.entries ∙ ap (λ c. only_entry c (map (by_column r.values) f.selected.items)) (sym told))
      ∙ sym has

  abbrev later : TableValue → ExecutorValue
  later t = record { query = e.query; shared = e.shared; plan = e.plan; extent = e.extent; given = e.given + 1; table = t; saturation = e.saturation }

  pub plain_taken : RowKeeps e.query r → TakesRow e pool r (later table) pool
  plain_taken keeps =
      subst (λ (t : TableValue). TakesRow e pool r (later t) pool) same
      (row-taken e sound pool ready r keeps pool (filter_taken e.query e.plan e.extent r pool is.alone (ready_row e sound pool ready r sound.ascends)))
