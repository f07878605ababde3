-- An executor that is told of a printed tuple.
use Rattle.std.proofs.Common.{◌≡◌, ℕ, ◌+◌, ◌<◌, inl, inr, cond, Bool, true, false, not, ◌&&◌, ℤ, List, [], ◌∷◌, length, get_or, refl, sym, ap, ◌∙◌, subst, arith, All, Contains, Some, None}
use Rattle.std.specs.List.{list_any}
use Rattle.std.proofs.lemmas.List.{length-map}
use Rattle.sem_query.specs.declared.plan.Plan.{Plan}
use Rattle.sem_query.specs.declared.plan.Plan.TheVariants as plan
use Rattle.sem_query.specs.Tuples.{is_same, sorted}
use Rattle.sem_query.specs.Combinations.{Found, read_from}
use Rattle.sem_query.specs.Merge.{merged_table}
use Rattle.sem_query.specs.Numbers.{parts_of}
use Rattle.sem_query.specs.Ranges.{all_tuples}
use Rattle.sem_query.specs.Bases.{Base}
use Rattle.sem_query.proofs.Has.{Has}
use Rattle.sem_laws.proofs.Bases.{bases-keep-on}
use Rattle.sem_laws.proofs.Tests.{and-left, and-right, any_from, not_both}
use Rattle.sem_laws.proofs.Order.{same-is}
use Rattle.exec_pool.specs.Extents.{PoolValue}
use Rattle.exec_answer_table.specs.Entries.{Entry, TableValue, with_entries, entry_of, added, changed, has, settled, tuples_of, Ascends, Fits}
use Rattle.exec_answer_table.proofs.Changed.{ascends_changed, ascends_settled}
use Rattle.exec_answer_table.proofs.Tuples.{has_tuple}
use Rattle.exec_query.specs.Executor.{ExecutorValue, parts_in, list_in, cells_in, tuples_in, waiting_in, most_answers, IsSound}
use Rattle.exec_query.specs.Standing.{AreKept, KeepsWithin}
use Rattle.exec_query.specs.CellSteps.{HasParts}
use Rattle.exec_query.specs.FoundTable.{with_all}
use Rattle.exec_query.specs.Bases.{kept_in, StandsFrom}
use Rattle.exec_query.specs.Loading.{loaded_tuple, Loads}
use Rattle.exec_query.proofs.Answered.{settled-tuples, settled-has, filter_plain}
use Rattle.exec_query.proofs.Room.{Lie, lie_from, lie_all, tuples_changed, changed_within, room_for}
use Rattle.exec_query.proofs.TakingNew.{tuples_new_all}
use Rattle.exec_query.proofs.OldAnswers.{has-changed, has-from-tuples, tuples-from-has}
use Rattle.exec_query.proofs.Closing.{saturated-more}
use Rattle.exec_query.proofs.PlanFacts.{serving_in, has_parts}
use Rattle.exec_query.proofs.Settled.{settled-spelled}
use Rattle.exec_query.proofs.Keeping.{keeps}
use Rattle.exec_query.proofs.Loadings.{keeps-base}

abbrev one_more : ℕ → ℕ
one_more waiting = waiting + 1

-- with DISTINCT the table has room for a tuple in the ranges of some part
pub tuple-room : (e : ExecutorValue) → IsSound e → (t : List ℤ) → e.query.distinct ≡ true → list_any (is_same t) (all_tuples e.query (parts_in e)) ≡ true
    → Fits t e.table
tuple-room e sound t d h none = by e.plan (has_parts e.shared e.query e.plan (serving_in e sound)) sound.capacity h (sound.tuples d)
  where
    by : (p : Plan) → HasParts e.query p → e.table.capacity ≡ most_answers p → list_any (is_same t) (all_tuples e.query (parts_of p)) ≡ true
        → All (Contains (all_tuples e.query (parts_of p))) (tuples_of e.table.entries) → length e.table.entries < e.table.capacity
    by plan.Filter own capacity k lie = absurd (not_both _ d (filter_plain e.query own))
    by (plan.Parts parts numbers) own capacity k lie =
        let m = any_from (is_same t) (all_tuples e.query parts) k in
        let is : t ≡ m.0 = same-is t m.0 m.2 in
        let among : Has (all_tuples e.query parts) t = subst (λ z. Has (all_tuples e.query parts) z) (sym is) m.1 in
        let room = room_for e.query parts numbers.answers own.2 t e.table.entries sound.ascends (lie_from e.query parts (tuples_of e.table.entries) lie) among none in
        omega (arith, room, capacity)

-- a table takes a tuple that is not there by merging
table-merges : (t : List ℤ) (es : List Entry) → Ascends es → has t es ≡ false → tuples_of (settled (added t 1 es)) ≡ merged_table (tuples_of es) (t ∷ [])
unfolding with_all
table-merges t es a none =
    settled-tuples (added t 1 es)
    ∙ sym (ap (λ b. tuples_of (cond b es (added t 1 es))) none)
    ∙ tuples_new_all (one ∷ []) es a only
    ∙ ap (λ b. merged_table (tuples_of es) (sorted (cond (not b) (t ∷ []) []))) (has_tuple t es ∙ none)
  where
    one : Found
    one = record { tuple = t; count = 1 }

    only : All (λ (f : Found). f.count ≡ 1) (one ∷ [])
    only k d l = at k (omega (arith, l))
      where
        at : (k : ℕ) → k ≡ 0 → (get_or (one ∷ []) k d).count ≡ 1
        at k e = ap (λ n. (get_or (one ∷ []) n d).count) e

module _ (e : ExecutorValue) (sound : IsSound e) (t : List ℤ) (wide : length t ≡ length e.query.select) (result : Bool)
    (tells : result ≡ (e.query.distinct && (list_any (is_same t) (all_tuples e.query (parts_in e)) && not (list_any (is_same t) (tuples_of e.table.entries)))))
    (after : TableValue) (is : after ≡ cond result (with_entries e.table (settled (added t 1 e.table.entries))) e.table) where
  abbrev es : List Entry
  es = e.table.entries

  abbrev among : Bool
  among = list_any (is_same t) (all_tuples e.query (parts_in e))

  abbrev told : TableValue → ExecutorValue
  told table = record { query = e.query; shared = e.shared; plan = e.plan; extent = e.extent; given = e.given; table = table; saturation = e.saturation }

  turned : (b : Bool) → not b ≡ true → b ≡ false
  turned true h = absurd cc
  turned false h = refl

  module _ (is_true : result ≡ true) where
    tests : (e.query.distinct && (among && not (list_any (is_same t) (tuples_of es)))) ≡ true
    tests = sym tells ∙ is_true

    distinct : e.query.distinct ≡ true
    distinct = and-left _ (among && not (list_any (is_same t) (tuples_of es))) tests

    inside : (among && not (list_any (is_same t) (tuples_of es))) ≡ true
    inside = and-right e.query.distinct _ tests

    none : has t es ≡ false
    none = sym (has_tuple t es) ∙ turned (list_any (is_same t) (tuples_of es)) (and-right among _ inside)

    lies : Has (all_tuples e.query (parts_in e)) t
    lies =
        let m = any_from (is_same t) (all_tuples e.query (parts_in e)) (and-left _ (not (list_any (is_same t) (tuples_of es))) inside) in
        subst (λ z. Has (all_tuples e.query (parts_in e)) z) (sym (same-is t m.0 m.2)) m.1

    fits : Fits t e.table
    fits = tuple-room e sound t distinct (and-left _ (not (list_any (is_same t) (tuples_of es))) inside)

    more-lie : Lie e.query (parts_in e) (tuples_of (changed one_more t es))
    more-lie z h = elim (tuples_changed t one_more es sound.ascends z h) [
      | inl k ↦ subst (λ u. Has (all_tuples e.query (parts_in e)) u) k lies
      | inr m ↦ lie_from e.query (parts_in e) (tuples_of es) (sound.tuples distinct) z m
    ]

    more-sound : IsSound (told (with_entries e.table (settled (added t 1 es))))
    more-sound = record {
      limits = sound.limits;
      accepted = sound.accepted;
      pages = sound.pages;
      width = sound.width;
      capacity = sound.capacity;
      given = sound.given;
      entries =
          (let n = length-map (added t 1 es) (λ (x : Entry). entry_of x.tuple 0) in
          let c = sound.capacity in
          let f = sound.entries in
          let w = changed_within t one_more e.table sound.ascends fits (omega (arith, c, f)) in omega (arith, n, w, c));
      ascends = ascends_settled (added t 1 es) (ascends_changed t one_more es sound.ascends);
      tuples = λ d. subst (All (Contains (all_tuples e.query (parts_in e)))) (sym (settled-tuples (added t 1 es))) (lie_all e.query (parts_in e) (tuples_of (added t 1 es)) more-lie);
    }

  -- what is true of each executor, by the result
  by-result : (P : TableValue → Type 0) → P e.table → (result ≡ true → P (with_entries e.table (settled (added t 1 es)))) → P after
  by-result P was put = subst P (sym is) (by result refl)
    where
      by : (b : Bool) → result ≡ b → P (cond b (with_entries e.table (settled (added t 1 es))) e.table)
      by true h = put h
      by false h = was

  pub tuple-sound : IsSound (told after)
  tuple-sound = by-result (λ table. IsSound (told table)) sound more-sound

  pub tuple-quiet : waiting_in e ≡ [] → waiting_in (told after) ≡ []
  tuple-quiet quiet = by-result (λ table. waiting_in (told table) ≡ []) quiet (λ r. settled-spelled (added t 1 es))

  -- each tuple stays
  tuples-stay : (z : List ℤ) → Contains (tuples_of es) z → Contains (tuples_of after.entries) z
  tuples-stay z h =
      by-result (λ table. Contains (tuples_of table.entries) z) h
      (λ r. tuples-from-has z (settled (added t 1 es)) (settled-has z (added t 1 es) ∙ has-changed z t one_more es (has-from-tuples z es h)))

  pub tuple-kept : (pool : PoolValue) → AreKept e pool → AreKept (told after) pool
  tuple-kept pool k = record {
    live = k.live;
    fitting = k.fitting;
    counts = k.counts;
    saturated = λ d. saturated-more e.saturation e.query (parts_in e) (read_from (cells_in e pool)) (tuples_of es) (tuples_of after.entries) tuples-stay (k.saturated d);
  }

  pub tuple-within : (pool : PoolValue) → KeepsWithin e pool → KeepsWithin (told after) pool
  tuple-within pool w = keeps (told after) tuple-sound pool w.live w.rest

  module _ (pool : PoolValue) (base : Base) (s : StandsFrom e pool base []) where
    table_is : e.query.distinct ≡ true → tuples_in e ≡ base.table
    table_is d = s.tuples d ∙ ap (λ (b : Base). b.table) (keeps-base e pool base s)

    same_test : result ≡ (e.query.distinct && (among && not (list_any (is_same t) base.table)))
    same_test = tells ∙ by e.query.distinct refl
      where
        by : (b : Bool) → e.query.distinct ≡ b → (b && (among && not (list_any (is_same t) (tuples_of es)))) ≡ (b && (among && not (list_any (is_same t) base.table)))
        by true d = ap (λ ts. among && not (list_any (is_same t) ts)) (table_is d)
        by false d = refl

    abbrev more : Base
    more = record base { table = merged_table base.table (t ∷ []) }

    more-stands : result ≡ true → StandsFrom (told (with_entries e.table (settled (added t 1 es)))) pool more []
    more-stands r =
        let more_none : kept_in e more [] ≡ more = (bases-keep-on e.query (parts_in e) (list_in e) more s.size).none in
        record {
          live = s.live;
          size = s.size;
          cells = s.cells;
          rest = s.rest;
          given = s.given;
          rows = s.rows;
          tuples = λ d. table-merges t es sound.ascends (none r) ∙ ap (λ ts. merged_table ts (t ∷ [])) (table_is d) ∙ sym (ap (λ (b : Base). b.table) more_none);
        }

    pub tuple-loads : Loads result (loaded_tuple e.query (parts_in e) t base) e pool (told after) pool
    tuple-loads = subst (λ b. Loads result (cond b (Some more) None) e pool (told after) pool) same_test (by result refl)
      where
        by : (b : Bool) → result ≡ b → Loads result (cond b (Some more) None) e pool (told after) pool
        by true h = (h, subst (λ (x : TableValue). StandsFrom (told x) pool more []) (sym (is ∙ ap (λ b. cond b (with_entries e.table (settled (added t 1 es))) e.table) h)) (more-stands h))
        by false h = (h, ap told (is ∙ ap (λ b. cond b (with_entries e.table (settled (added t 1 es))) e.table) h), refl)
