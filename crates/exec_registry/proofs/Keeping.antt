-- When a row keeps to the domains of each live query.
use Rattle.std.proofs.Common.{◌≡◌, inl, inr, true, not, ◌||◌, nat_eq, IsTrue, List, Contains, slice_index_or, ap, ◌∙◌, All}
use Rattle.sem_query.specs.declared.atom.Domain.{Domain}
use Rattle.sem_query.specs.Assignment.{lies_in}
use Rattle.sem_query.specs.Domains.{RowKeeps}
use Rattle.sem_query.specs.Meaning.{Arrival, by_column}
use Rattle.sem_query.specs.Query.{QueryValue}
use Rattle.sem_query.proofs.Has.{Has, Contains-from_has}
use Rattle.sem_laws.proofs.Tests.{or-left, or-right, true_or_false, all_if, nat_true}
use Rattle.exec_registry.specs.Live.{Live}
use Rattle.exec_registry.specs.Registry.{KeepsToEach}

-- each domain of the query that is of a column of the row's stream has the row's value in it
abbrev pub ValuesLieIn : QueryValue → Arrival → Type 0
ValuesLieIn q r = (d : Domain) → Contains q.domains d → slice_index_or q.from d.attr.stream 0 ≡ r.stream → IsTrue (lies_in d (by_column r.values d.attr.column))

-- a row whose values lie in the domains of their columns keeps to the domains of the query
pub row_keeps : (q : QueryValue) (r : Arrival) → ValuesLieIn q r → RowKeeps q r
row_keeps q r lie place l e = all_if (λ d. not (nat_eq d.attr.stream place) || lies_in d (by_column r.values d.attr.column)) q.domains one
  where
    one : (d : Domain) → Has q.domains d → (not (nat_eq d.attr.stream place) || lies_in d (by_column r.values d.attr.column)) ≡ true
    one d h = elim (true_or_false (nat_eq d.attr.stream place)) [
      | inl here ↦ or-right _ _ (lie d (Contains-from_has q.domains d h) (ap (λ n. slice_index_or q.from n 0) (nat_true d.attr.stream place here) ∙ e))
      | inr off ↦ or-left _ _ (ap not off)
    ]

-- and to the domains of each live query
pub keeps_to_each : (r : Arrival) (live : List Live) → All (λ (l : Live). ValuesLieIn l.executor.query r) live → KeepsToEach live r
keeps_to_each r live lie k d within = row_keeps (slice_index_or live k d).executor.query r (lie k d within)
