-- An executor whose answers were written, and one to which no row was given.
use Rattle.std.proofs.Common.{◌≡◌, ℕ, ◌*◌, ◌<◌, cond, Bool, true, false, List, [], ◌∷◌, map, filter, length, take, drop, replicate, refl, sym, ap, ◌∙◌, subst, arith, All, Contains}
use Rattle.std.proofs.lemmas.List.{take-replicate, drop-replicate, length-replicate, length-map}
use Rattle.sem_query.specs.declared.cell.Cell.{Cell}
use Rattle.sem_query.specs.declared.plan.PartPlan.{PartPlan}
use Rattle.sem_query.specs.Query.{QueryValue, IsWithinLimits}
use Rattle.sem_query.specs.Tuples.{sorted, distinct_tuples}
use Rattle.sem_query.specs.Assignment.{holds, projected}
use Rattle.sem_query.specs.Meaning.{Arrival, rows, product, answers, assignment_of}
use Rattle.sem_query.specs.Cells.{printed}
use Rattle.sem_query.specs.Ranges.{all_tuples}
use Rattle.sem_query.specs.Sharing.{Box, sizes_in, synopsis_in}
use Rattle.sem_laws.proofs.SharedCells.{bases-grow}
use Rattle.exec_pool.specs.Extents.{PoolValue, cells_of, IsLive}
use Rattle.exec_answer_table.specs.Entries.{Entry, entry_of, settled, tuples_of}
use Rattle.exec_query.specs.Executor.{ExecutorValue, parts_in, list_in, spelled, IsSound, with_given}
use Rattle.exec_query.specs.Standing.{StandsFor}
use Rattle.exec_query.proofs.Answered.{settled-tuples, cleared-ascends}
use Rattle.exec_query.proofs.PlanFacts.{serving_in, cells_of_plan}

-- nothing waits
pub settled-spelled : (es : List Entry) → spelled (settled es) ≡ []
settled-spelled [] = refl
settled-spelled (e ∷ es) = settled-spelled es

-- the executor whose answers were written
abbrev pub written : ExecutorValue → ExecutorValue
written e = with_given e e.given (settled e.table.entries)

pub written-sound : (e : ExecutorValue) → IsSound e → IsSound (written e)
written-sound e s = record {
  limits = s.limits;
  accepted = s.accepted;
  pages = s.pages;
  width = s.width;
  capacity = s.capacity;
  given = s.given;
  entries = (let n = length-map e.table.entries (λ (x : Entry). entry_of x.tuple 0) in let f = s.entries in omega (arith, n, f));
  ascends = cleared-ascends true e.table.entries s.ascends;
  tuples = λ d. subst (All (Contains (all_tuples e.query (parts_in e)))) (sym (settled-tuples e.table.entries)) (s.tuples d);
}

-- stands for what it stood for
pub written-stands : (e : ExecutorValue) (pool : PoolValue) (h : List Arrival) → StandsFor e pool h → StandsFor (written e) pool h
written-stands e pool h s = record {
  live = s.live;
  cells = s.cells;
  rest = s.rest;
  given = s.given;
  rows = s.rows;
  tuples = λ d. settled-tuples e.table.entries ∙ s.tuples d;
}

-- the synopsis of no rows
synopsis-none : (q : QueryValue) (list : List Box) → replicate (sizes_in list) Cell.Empty ≡ synopsis_in q list []
synopsis-none q list =
    sym (((bases-grow q list).0 (replicate (sizes_in list) Cell.Empty) (length-replicate (sizes_in list) Cell.Empty)).none) ∙ (bases-grow q list).1 []

-- a query has no answers before the first row
answers-none : (q : QueryValue) → IsWithinLimits q → answers q [] ≡ []
answers-none q within = by q.from within.streams.0
  where
    by : (from : List ℕ) → 0 < length from
        → map (λ c. projected q (assignment_of c)) (filter (λ c. holds q (assignment_of c)) (product (map (rows []) from))) ≡ []
    by [] l = absurd (omega (arith, l))
    by (s ∷ from) l = refl

printed-none : (q : QueryValue) → IsWithinLimits q → [] ≡ printed q []
printed-none q within = by q.distinct
  where
    by : (d : Bool) → [] ≡ cond d (sorted (distinct_tuples (answers q []))) []
    by true = ap (λ ts. sorted (distinct_tuples ts)) (sym (answers-none q within))
    by false = refl

-- an executor to which no row was given stands for no rows
pub begins : (e : ExecutorValue) → IsSound e → e.given ≡ 0 → e.table.entries ≡ [] → (pool : PoolValue) → IsLive pool e.extent
    → cells_of pool e.extent ≡ replicate (64 * e.extent.pages) Cell.Empty → StandsFor e pool []
begins e s given none pool live empty =
    let c = cells_of_plan e.shared e.query e.plan (serving_in e s) s.accepted.within in
    record {
      live = live;
      cells =
          ap (take (sizes_in (list_in e))) empty
          ∙ take-replicate (sizes_in (list_in e)) (64 * e.extent.pages) Cell.Empty (let w = c.0 in let p = s.pages in omega (arith, w, p))
          ∙ synopsis-none e.query (list_in e);
      rest = ap (drop (sizes_in (list_in e))) empty ∙ drop-replicate (sizes_in (list_in e)) (64 * e.extent.pages) Cell.Empty;
      given = given;
      rows = λ k d l. absurd (omega (arith, l));
      tuples = λ d. ap tuples_of none ∙ printed-none e.query s.limits;
    }

-- a table without entries lies in the ranges of the parts
pub none_within : (q : QueryValue) (plan : List PartPlan) (entries : List Entry) → entries ≡ []
    → All (Contains (all_tuples q plan)) (tuples_of entries)
none_within q plan entries e =
    subst (λ es. All (Contains (all_tuples q plan)) (tuples_of es)) (sym e) (λ k d l. absurd (omega (arith, l)))
