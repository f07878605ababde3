-- What waits after a row was taken up, the tuples of the table then, and that there was room.
use Rattle.std.proofs.Common.{◌≡◌, ℕ, min, ◌+◌, ◌*◌, ◌<◌, ◌≤◌, ◌^◌, ◌==◌, ◌&&◌, not, cond, Bool, true, false, ℤ, List, [], ◌∷◌, map, length, refl, sym, ap, ◌∙◌, subst, arith, slice_index_or, All, Contains, Some, None}
use Rattle.std.specs.List.{list_any}
use Rattle.std.specs.Option.{option_to_list}
use Rattle.std.proofs.lemmas.List.{length-map}
use Rattle.std.proofs.lemmas.List.Elements.{All-append, All-contains}
use Rattle.std.proofs.lemmas.Grind.{common_steps}
use Rattle.sem_query.specs.declared.plan.PartPlan.{PartPlan}
use Rattle.sem_query.specs.declared.plan.Plan.{Plan}
use Rattle.sem_query.specs.declared.plan.Plan.TheVariants as plan
use Rattle.sem_query.specs.Query.{QueryValue, IsWithinLimits}
use Rattle.sem_query.specs.Assignment.{projected, holds}
use Rattle.sem_query.specs.Tuples.{sorted, new_tuples}
use Rattle.sem_query.specs.Meaning.{Arrival, by_column, assignment_of}
use Rattle.sem_query.specs.Plan.{stream_at}
use Rattle.sem_query.specs.Serving.{KeepsStreams, Serves}
use Rattle.sem_query.specs.Admission.{admits}
use Rattle.sem_query.specs.Cells.{FitsKind}
use Rattle.sem_query.specs.Ranges.{all_tuples}
use Rattle.sem_query.specs.Merge.{merged_table}
use Rattle.sem_query.specs.Numbers.{parts_of}
use Rattle.sem_query.specs.Combinations.{Reading, Found, found_in}
use Rattle.sem_query.specs.Probing.{found_beside}
use Rattle.sem_query.specs.Future.{spelled_out, future}
use Rattle.sem_query.proofs.Has.{Has, first, later, Contains-from_has}
use Rattle.sem_laws.specs.Growth.{occurs}
use Rattle.sem_laws.proofs.Tests.{nat_true, any_from, not_both}
use Rattle.sem_laws.proofs.Sums.{bit}
use Rattle.sem_laws.proofs.Counts.{times}
use Rattle.sem_laws.proofs.Order.{times-ascending, times-fresh}
use Rattle.sem_laws.proofs.Interleaving.{occurs-is}
use Rattle.sem_laws.proofs.ByPlace.{walks-find-all}
use Rattle.exec_synopsis.specs.Premises.{AreFitting, AreKeeping}
use Rattle.exec_synopsis.proofs.CallerLemmas.{serving-keeping, walked}
use Rattle.exec_join.proofs.OneEach.{counts-are-one}
use Rattle.exec_answer_table.specs.Entries.{Entry, TableValue, with_entries, Ascends, has, waiting_of, settled, tuples_of}
use Rattle.exec_answer_table.proofs.Changed.{ascends_settled}
use Rattle.exec_answer_table.proofs.Tuples.{has_tuple}
use Rattle.exec_query.specs.Executor.{most_answers, cleared}
use Rattle.exec_query.specs.FoundTable.{with_all, HaveRoom}
use Rattle.exec_query.specs.CellSteps.{all_found, own_found, answered_by, HasParts}
use Rattle.sem_laws.specs.Probing.{AreWithin}
use Rattle.exec_query.proofs.Founds.{found_lies}
use Rattle.exec_query.proofs.TableLaws.{waits_plain, ascends_all}
use Rattle.exec_query.proofs.TakingNew.{waits_new, tuples_new_all}
use Rattle.exec_query.proofs.Room.{Lie, have_room, lie_with_all, lie_from, lie_all}
use Rattle.exec_query.proofs.Answered.{cleared-ascends, settled-waits, settled-tuples, settled-has, filter_plain, plain_future, new_future}

-- with DISTINCT each combination that is found counts one
module _ (q : QueryValue) (within : IsWithinLimits q) (distinct : q.distinct ≡ true) (read : Reading) (r : Arrival) where
  ones_in : (part : PartPlan) → KeepsStreams q part → (plan : List PartPlan) → AreKeeping q plan → (cells : ℕ) → AreWithin (length q.from) cells plan → cells < 2 ^ 32 → Contains plan part → AreFitting part read
      → (pos : ℕ) → pos < length q.from → slice_index_or q.from pos 0 ≡ r.stream → All (λ (f : Found). f.count ≡ 1) (found_in q part read r)
  ones_in part own plan is cells inside few k fitting pos here e =
      subst (All (λ (f : Found). f.count ≡ 1)) (sym (walks-find-all q part within own read r pos here e)) (by (admits q part pos (by_column r.values)))
    where
      by : (b : Bool) → All (λ (f : Found). f.count ≡ 1) (cond b (found_beside q part read pos (by_column r.values)) [])
      by true = counts-are-one q part (walked q plan is cells inside few part k) read fitting pos (let c = own.count in omega (arith, c, here)) (by_column r.values) distinct
      by false = λ k d l. absurd (omega (arith, l))

  ones_all : (plan : List PartPlan) → AreKeeping q plan → (cells : ℕ) → AreWithin (length q.from) cells plan → cells < 2 ^ 32 → (pos : ℕ) → pos < length q.from → slice_index_or q.from pos 0 ≡ r.stream
      → (parts : List PartPlan) → ((part : PartPlan) → Has parts part → Contains plan part × KeepsStreams q part × AreFitting part read)
      → All (λ (f : Found). f.count ≡ 1) (all_found q parts read r)
  ones_all plan is cells inside few pos here e [] h = λ k d l. absurd (omega (arith, l))
  ones_all plan is cells inside few pos here e (part ∷ parts) h =
      All-append (λ (f : Found). f.count ≡ 1) (found_in q part read r) (all_found q parts read r)
      (let o = h part first in ones_in part o.1 plan is cells inside few o.0 o.2 pos here e)
      (ones_all plan is cells inside few pos here e parts (λ p k. h p (later k)))

  pub answered_ones : (p : Plan) → HasParts q p → (cells : ℕ) → AreWithin (length q.from) cells (parts_of p) → cells < 2 ^ 32
      → ((part : PartPlan) → Has (parts_of p) part → AreFitting part read) → All (λ (f : Found). f.count ≡ 1) (answered_by q p read r)
  answered_ones plan.Filter is cells inside few fitting = absurd (not_both _ distinct (filter_plain q is))
  answered_ones (plan.Parts parts numbers) is cells inside few fitting = by (list_any (λ stream. r.stream == stream) q.from) refl
    where
      by : (b : Bool) → list_any (λ stream. r.stream == stream) q.from ≡ b → All (λ (f : Found). f.count ≡ 1) (cond b (all_found q parts read r) [])
      by false e = λ k d l. absurd (omega (arith, l))
      by true e =
          let m = any_from (λ stream. r.stream == stream) q.from e in
          let c = Contains-from_has q.from m.0 m.1 in
          let same : slice_index_or q.from c.0 0 ≡ r.stream = at_default q.from c.0 m.0 c.1 ∙ c.2 ∙ sym (nat_true r.stream m.0 m.2) in
          let keeping : AreKeeping q parts = serving-keeping q parts is.1.serves in
          ones_all parts keeping cells inside few c.0 c.1 same parts
          (λ part k. (Contains-from_has parts part k, All-contains (KeepsStreams q) parts part keeping.plans (Contains-from_has parts part k), fitting part k))
        where
          at_default : (xs : List ℕ) (i d : ℕ) → i < length xs → slice_index_or xs i 0 ≡ slice_index_or xs i d
          at_default xs i d l = grind (arith, common_steps)

module _ (q : QueryValue) (p : Plan) (is : HasParts q p) (read : Reading) (r : Arrival) (es : List Entry) (a : Ascends es) where
  abbrev fs : List Found
  fs = answered_by q p read r

  -- how often each tuple waits
  pub waits_row : (q.distinct ≡ true → All (λ (f : Found). f.count ≡ 1) fs) → (z : List ℤ)
      → waiting_of z (with_all q.distinct fs (cleared q.distinct es)) ≡ min (occurs z (future q (parts_of p) read (tuples_of es) r)) (2 ^ 127)
  waits_row ones z = by q.distinct refl
    where
      by : (d : Bool) → q.distinct ≡ d
          → waiting_of z (with_all d fs (cleared d es)) ≡ min (occurs z (future q (parts_of p) read (tuples_of es) r)) (2 ^ 127)
      by true e =
          let n = waits_new z fs (settled es) (ascends_settled es a) (ones e) in
          let w = settled-waits z es in
          let b : bit (not (has z (settled es))) ≡ bit (not (has z es)) = ap (λ b. bit (not b)) (settled-has z es) in
          let o : occurs z (future q (parts_of p) read (tuples_of es) r) ≡ bit (not (has z es)) * min 1 (times z (spelled_out fs))
          = occurs-is z (future q (parts_of p) read (tuples_of es) r) ∙ ap (times z) (new_future q read (tuples_of es) r p is e)
          ∙ times-ascending z (new_tuples (tuples_of es) (spelled_out fs)) ∙ times-fresh z (tuples_of es) (spelled_out fs)
          ∙ ap (λ b. bit (not b) * min 1 (times z (spelled_out fs))) (has_tuple z es) in
          n ∙ (λ j. w j + b j * min 1 (times z (spelled_out fs))) ∙ small (has z es) (times z (spelled_out fs)) ∙ ap (λ m. min m (2 ^ 127)) (sym o)
        where
          small : (b : Bool) (m : ℕ) → 0 + bit (not b) * min 1 m ≡ min (bit (not b) * min 1 m) (2 ^ 127)
          small true m = omega arith
          small false m = omega arith
      by false e =
          waits_plain z fs [] tt (none z)
          ∙ ap (λ m. min (m + times z (spelled_out fs)) (2 ^ 127)) (zero_waits z)
          ∙ (let x : min (0 + times z (spelled_out fs)) (2 ^ 127) ≡ min (times z (spelled_out fs)) (2 ^ 127) = omega arith in x)
          ∙ ap (λ m. min m (2 ^ 127)) (sym (plain_future q read (tuples_of es) r p is e z))
        where
          zero_waits : (z : List ℤ) → waiting_of z [] ≡ 0
          zero_waits z = settled-waits z []

          none : (z : List ℤ) → waiting_of z [] ≤ 2 ^ 127
          none z = let w = zero_waits z in omega (arith, w)

  -- the tuples with DISTINCT
  pub tuples_row : All (λ (f : Found). f.count ≡ 1) fs → q.distinct ≡ true
      → tuples_of (with_all q.distinct fs (cleared q.distinct es)) ≡ merged_table (tuples_of es) (future q (parts_of p) read (tuples_of es) r)
  tuples_row ones e =
      ap (λ d. tuples_of (with_all d fs (cleared d es))) e
      ∙ tuples_new_all fs (settled es) (ascends_settled es a) ones
      ∙ ap (λ ts. merged_table ts (sorted (new_tuples ts (spelled_out fs)))) (settled-tuples es)
      ∙ ap (merged_table (tuples_of es)) (sym (new_future q read (tuples_of es) r p is e))

  pub ascends_row : Ascends (with_all q.distinct fs (cleared q.distinct es))
  ascends_row = ascends_all q.distinct fs (cleared q.distinct es) (cleared-ascends q.distinct es a)

-- what lies in the ranges before a row
lie_start : (q : QueryValue) (plan : List PartPlan) (es : List Entry) → (q.distinct ≡ true → All (Contains (all_tuples q plan)) (tuples_of es))
    → Lie q plan (tuples_of (cleared q.distinct es))
lie_start q plan es lie = by q.distinct refl
  where
    by : (d : Bool) → q.distinct ≡ d → Lie q plan (tuples_of (cleared d es))
    by true e = subst (Lie q plan) (sym (settled-tuples es)) (lie_from q plan (tuples_of es) (lie e))
    by false e = λ t h. elim h [ ]

kinds : (q : QueryValue) (read : Reading) (plan : List PartPlan) → All (Serves q) plan → ((part : PartPlan) → Has plan part → AreFitting part read)
    → (part : PartPlan) → Has plan part → (place i : ℕ) → place < length q.from → i < (stream_at part place).size → FitsKind (stream_at part place).kind (read part place i)
kinds q read plan own fit part k place i l s =
    let c = (All-contains (Serves q) plan part own (Contains-from_has plan part k)).keeps.count in
    fit part k place i (omega (arith, c, l)) s

own_wide : (q : QueryValue) (r : Arrival) (b : Bool) (table : TableValue) → table.width ≡ length q.select → table.capacity ≡ 1
    → HaveRoom false (map (λ t. let f : Found = record { tuple = t; count = 1 } in f) (option_to_list (cond b (Some (projected q (assignment_of (r.values ∷ [])))) None))) (with_entries table [])
own_wide q r false table width capacity = tt
own_wide q r true table width capacity = (
  length-map q.select (assignment_of (r.values ∷ [])) ∙ sym width,
  λ none. omega (arith, capacity),
  tt,
)

module _ (q : QueryValue) (within : IsWithinLimits q) (read : Reading) (r : Arrival) (table : TableValue) (width : table.width ≡ length q.select) (a : Ascends table.entries) where
  -- the table has room for what is answered
  pub room_row : (p : Plan) → HasParts q p → table.capacity ≡ most_answers p
      → (q.distinct ≡ true → All (Contains (all_tuples q (parts_of p))) (tuples_of table.entries))
      → ((part : PartPlan) → Has (parts_of p) part → AreFitting part read)
      → HaveRoom q.distinct (answered_by q p read r) (with_entries table (cleared q.distinct table.entries))
  room_row plan.Filter is capacity lie fitting =
      subst (λ d. HaveRoom d (own_found q r) (with_entries table (cleared d table.entries))) (sym (filter_plain q is))
      (own_wide q r ((r.stream == slice_index_or q.from 0 0) && holds q (assignment_of (r.values ∷ []))) table width capacity)
  room_row (plan.Parts parts numbers) is capacity lie fitting = by (list_any (λ stream. r.stream == stream) q.from)
    where
      by : (b : Bool) → HaveRoom q.distinct (cond b (all_found q parts read r) []) (with_entries table (cleared q.distinct table.entries))
      by false = tt
      by true =
          have_room q parts numbers.answers is.2 q.distinct (all_found q parts read r) (with_entries table (cleared q.distinct table.entries)) width
          capacity (cleared-ascends q.distinct table.entries a) (lie_start q parts table.entries lie)
          (found_lies q parts within is.1.serves read r (kinds q read parts is.1.serves fitting))

  -- its tuples stay within the ranges
  pub lie_row : (p : Plan) → HasParts q p
      → (q.distinct ≡ true → All (Contains (all_tuples q (parts_of p))) (tuples_of table.entries))
      → ((part : PartPlan) → Has (parts_of p) part → AreFitting part read)
      → q.distinct ≡ true
      → All (Contains (all_tuples q (parts_of p))) (tuples_of (with_all q.distinct (answered_by q p read r) (cleared q.distinct table.entries)))
  lie_row plan.Filter is lie fitting d = absurd (not_both _ d (filter_plain q is))
  lie_row (plan.Parts parts numbers) is lie fitting d = lie_all q parts _ (by (list_any (λ stream. r.stream == stream) q.from))
    where
      by : (b : Bool) → Lie q parts (tuples_of (with_all q.distinct (cond b (all_found q parts read r) []) (cleared q.distinct table.entries)))
      by b =
          lie_with_all q parts q.distinct (cond b (all_found q parts read r) []) (cleared q.distinct table.entries)
          (cleared-ascends q.distinct table.entries a) (lie_start q parts table.entries lie) (each b)
        where
          each : (b : Bool) → (f : Found) → Has (cond b (all_found q parts read r) []) f → Has (all_tuples q parts) f.tuple
          each true f h = found_lies q parts within is.1.serves read r (kinds q read parts is.1.serves fitting) f h
          each false f h = elim h [ ]
