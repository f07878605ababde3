-- Rows that a query does not concern are counted alone, and a box tells them.
use Rattle.std.proofs.Common.{◌≡◌, ℕ, zero, suc, ◌+◌, ◌≤◌, ◌^◌, ◌++◌, nat_lt, cond, List, [], ◌∷◌, Option, Some, None, inl, inr, replicate, refl, ap, ◌∙◌, arith}
use Rattle.exec_query_index.specs.declared.boxes.QueryBox.{QueryBox}
use Rattle.sem_query.specs.declared.plan.Plan.{Plan}
use Rattle.sem_query.specs.Query.{QueryValue}
use Rattle.exec_answer_table.specs.Entries.{Entry, waiting_entries}
use Rattle.sem_laws.proofs.Tests.{true_or_false}
use Rattle.exec_filter.specs.declared.prefilter.Prefilter.{Prefilter}
use Rattle.exec_filter.specs.Prefilter.{passes, IsPrefilter}
use Rattle.exec_filter.specs.Passing.{IsBoxOf}
use Rattle.exec_query.specs.Executor.{ExecutorValue, IsSound, arrival, spelled, with_given}
use Rattle.exec_query.specs.Passing.{IsBoxFor, RefusedRowsPass}
use Rattle.exec_query.proofs.Refused.{refused_took}
use Rattle.exec_query.proofs.TakenRow.{row-refused}

-- entries that are not spelled do not wait
waiting-none : (es : List Entry) → spelled es ≡ [] → waiting_entries es ≡ []
waiting-none [] h = refl
waiting-none (e ∷ es) h = by e.waiting refl (waiting-none es) h
  where
    by : (n : ℕ) → e.waiting ≡ n → (spelled es ≡ [] → waiting_entries es ≡ []) → (replicate n e.tuple ++ spelled es) ≡ [] → waiting_entries (e ∷ es) ≡ []
    by zero is rest k = ap (λ n. cond (nat_lt 0 n) (e ∷ waiting_entries es) (waiting_entries es)) is ∙ rest k
    by (suc n) is rest k = absurd cc

-- what is true of each executor is true after more rows
pub counted-sound : (e : ExecutorValue) (n : ℕ) → n ≤ 2 ^ 40 → IsSound e → IsSound (with_given e n e.table.entries)
counted-sound e n few s = record {
  limits = s.limits;
  accepted = s.accepted;
  pages = s.pages;
  width = s.width;
  capacity = s.capacity;
  given = few;
  entries = s.entries;
  ascends = s.ascends;
  tuples = s.tuples;
}

pub refused-rows-pass : RefusedRowsPass
refused-rows-pass e pool r sound ready keeps none refused =
    let took = row-refused e e refl sound pool r keeps (refused_took e sound pool ready r keeps (waiting-none e.table.entries none) refused) in
    record {
      sound = counted-sound e (e.given + 1) (let few = ready.few in omega (arith, few)) sound;
      kept = took.row.kept;
      within = took.within;
      bases = took.bases;
    }

-- a row outside of the box of a prefilter is refused
pub box-refuses : (q : QueryValue) (p : Plan) (prefilter : Prefilter) (stream : ℕ) (own : Option QueryBox) → IsPrefilter q p prefilter → IsBoxOf prefilter stream own → IsBoxFor q p stream own
box-refuses q p prefilter stream None is h = λ row. is (arrival stream row) (h row)
box-refuses q p prefilter stream (Some box) is h = λ row out.
    elim (true_or_false (passes prefilter (arrival stream row))) [
      | inr f ↦ is (arrival stream row) f
      | inl t ↦ absurd (out (h row t))
    ]
