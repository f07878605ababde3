-- Queries with domains, of evaluators that see only rows within them; and such a query with its domains written as comparisons.
use Rattle.std.specs.Prelude.{◌≡◌, ◌≢◌, ◌↔◌, ◌⊎◌, ℕ, suc, ◌≤◌, ◌*◌, ◌^◌, pos, ◌+ℤ◌, ◌-ℤ◌, List, [], ◌∷◌, ◌++◌, length, All, Contains, IsFalse}
use Rattle.std.specs.List.{flat_map}
use Rattle.std.specs.declared.option.Option.{Option}
use Rattle.std.specs.declared.option.Option.TheVariants.{None, Some}
use Rattle.sem_query.specs.declared.atom.Atom.{Atom}
use Rattle.sem_query.specs.declared.atom.Domain.{Domain}
use Rattle.sem_query.specs.declared.atom.Op.{Op}
use Rattle.sem_query.specs.declared.atom.Element.TheVariants as element
use Rattle.sem_query.specs.Query.{QueryValue, IsWithinLimits, is_soft}
use Rattle.sem_query.specs.Meaning.{Arrival, new_answers}
use Rattle.sem_query.specs.Domains.{RowKeeps, RowsKeep}
use Rattle.sem_query.specs.Violation.{Failure, IsViolation}
use Rattle.sem_laws.specs.Cases.{atom}
use Rattle.sem_lower_bounds.specs.Catalog.{IsOver, IsRow}
use Rattle.sem_lower_bounds.specs.Soft.{RefusalTells}
use Rattle.sem_lower_bounds.specs.States.{Evaluator, after, AreWithin, NeedsStates}

-- the comparisons that say that a column lies in its domain
abbrev pub as_comparisons : Domain → List Atom
as_comparisons d = atom (element.Attr d.attr) Op.Gt (element.Const (d.lo -ℤ pos 1)) ∷ atom (element.Attr d.attr) Op.Lt (element.Const (d.hi +ℤ pos 1)) ∷ []

-- the query with its domains written as comparisons
abbrev pub written : QueryValue → QueryValue
written q = record q { atoms = q.atoms ++ flat_map as_comparisons q.domains; domains = [] }

-- to each row of a kind, after each history of such rows, it answers what the query answers
abbrev pub IsRightOn : (Arrival → Type 0) → QueryValue → Evaluator → Type 0
IsRightOn kind q e = (history : List Arrival) (r : Arrival) → All kind history → kind r → e.says (after e e.start history) r ≡ new_answers q history r

-- the histories of at most n such rows, with values within a bound, lead to at most so many different states
pub record HasStatesOn (kind : Arrival → Type 0) (e : Evaluator) (n bound most : ℕ) : Type 0 where
  pub states : List ℕ
  pub size : length states ≤ most
  pub all : (history : List Arrival) → All kind history → length history ≤ n → AreWithin bound history → Contains states (after e e.start history)

-- each evaluator that is right on rows of the kind is in at least 2^n states after at most n of them with values within b * (n + 1)
abbrev pub NeedsStatesOnBy : (Arrival → Type 0) → QueryValue → ℕ → Type 0
NeedsStatesOnBy kind q b = (e : Evaluator) → IsRightOn kind q e → (n most : ℕ) → HasStatesOn kind e n (b * suc n) most → 2 ^ n ≤ most

-- for one factor b: that there is none is absurd
abbrev pub NeedsStatesOn : (Arrival → Type 0) → QueryValue → Type 0
NeedsStatesOn kind q = ¬ ((b : ℕ) → ¬ NeedsStatesOnBy kind q b)

-- many states are needed on rows within the domains
abbrev pub NeedsStatesWithin : QueryValue → Type 0
NeedsStatesWithin q = NeedsStatesOn (RowKeeps q) q

-- on rows within the domains, both queries have the same answers
abbrev pub WrittenIsAlike : Type 0
WrittenIsAlike =
    (q : QueryValue) → IsWithinLimits q
    → (history : List Arrival) (r : Arrival) → RowsKeep q history → RowKeeps q r → new_answers (written q) history r ≡ new_answers q history r

-- and the one needs many states on such rows exactly where the other does on all
abbrev pub WrittenDecides : Type 0
WrittenDecides = (q : QueryValue) → IsWithinLimits q → NeedsStatesWithin q ↔ NeedsStates (written q)

-- so where the written query is refused, the query needs many states on rows within its domains
abbrev pub DomainsNeedStates : Type 0
DomainsNeedStates = (q : QueryValue) → IsWithinLimits q → IsFalse q.compact → (f : Failure) → IsViolation (written q) (Some f) → RefusalTells q f → NeedsStatesWithin q

-- even of evaluators that are right only on those of them that a catalog has, of so many values for each stream
abbrev pub CatalogDomainsNeedStates : Type 0
CatalogDomainsNeedStates =
    (q : QueryValue) → IsWithinLimits q → IsFalse q.compact → (f : Failure) → IsViolation (written q) (Some f) → RefusalTells q f
    → (width : ℕ → ℕ) → IsOver width q → NeedsStatesOn (λ r. IsRow width r × RowKeeps q r) q

-- and where no comparison is soft or there is no DISTINCT, it needs them exactly where the written query violates a condition
abbrev pub DomainConditionsAreExact : Type 0
DomainConditionsAreExact =
    (q : QueryValue) → IsWithinLimits (written q) → IsFalse q.compact → All (λ t. IsFalse (is_soft t.op)) q.atoms ⊎ IsFalse q.distinct
    → (violation : Option Failure) → IsViolation (written q) violation
    → NeedsStatesWithin q ↔ (violation ≢ None)
