-- Shards that are created with narrower domains, and rows that may stay away from them: a query that no one process can hold.
use Rattle.std.specs.Prelude.{◌≡◌, ℕ, ◌<◌, ◌⊎◌, ℤ, List, length, Contains, IsTrue}
use Rattle.std.specs.List.{slice_index_or}
use Rattle.sem_query.specs.declared.atom.Domain.{Domain}
use Rattle.sem_query.specs.declared.plan.PartPlan.{PartPlan}
use Rattle.sem_query.specs.Query.{QueryValue, IsWithinLimits}
use Rattle.sem_query.specs.Assignment.{lies_in}
use Rattle.sem_query.specs.Meaning.{Arrival, by_column, new_answers}
use Rattle.sem_query.specs.Domains.{RowKeeps}
use Rattle.sem_query.specs.Plan.{ArePartPlans}
use Rattle.sem_query.specs.Admission.{admits}
use Rattle.sem_sharding.specs.Shards.{Routing, IsSplit, IsDisjoint}
use Rattle.sem_sharding.specs.Keys.{Keys, by_key, IsKey, AreEqualKeys, TellsKeys}

-- the same query over streams with other domains
abbrev pub with_domains : List Domain → QueryValue → QueryValue
with_domains ds q = record q { domains = ds }

-- what is answered hangs on no domain
abbrev pub DomainsAnswerNothing : Type 0
DomainsAnswerNothing =
    (q : QueryValue) (ds : List Domain) (history : List Arrival) (r : Arrival) → new_answers (with_domains ds q) history r ≡ new_answers q history r

-- the domains of a shard: each is one of the query, or that of a key and has all values that are put there
abbrev pub AreNarrowed : QueryValue → Keys → (ℤ → ℕ) → ℕ → List Domain → Type 0
AreNarrowed q keys put shard ds =
    (d : Domain) → Contains ds d → Contains q.domains d ⊎ (IsKey q keys d.attr × ((z : ℤ) → put z ≡ shard → IsTrue (lies_in d z)))

-- the rows that go to the shard keep to them
abbrev pub NarrowedRowsKeep : Type 0
NarrowedRowsKeep =
    (q : QueryValue) (keys : Keys) (put : ℤ → ℕ) (shard : ℕ) (ds : List Domain) → AreNarrowed q keys put shard ds
    → (r : Arrival) → RowKeeps q r → IsTrue (by_key keys put shard r) → RowKeeps (with_domains ds q) r

-- some part of the plan of a query admits a row
pub record IsAdmitted (q : QueryValue) (plan : List PartPlan) (r : Arrival) : Type 0 where
  pub part : PartPlan
  pub among : Contains plan part
  pub place : ℕ
  pub at : place < length q.from
  pub stream : slice_index_or q.from place 0 ≡ r.stream
  pub admitted : IsTrue (admits q part place (by_column r.values))

-- of the rows that the keys send to a shard it gets at least those that some part of its narrowed query admits
pub record GetsAdmitted (q : QueryValue) (keys : Keys) (put : ℤ → ℕ) (to : Routing) (shard : ℕ) : Type 0 where
  pub domains : List Domain
  pub narrowed : AreNarrowed q keys put shard domains
  pub within : IsWithinLimits (with_domains domains q)
  pub plan : List PartPlan
  pub planned : ArePartPlans (with_domains domains q) plan
  pub only : (r : Arrival) → IsTrue (to shard r) → IsTrue (by_key keys put shard r)
  pub needed : (r : Arrival) → IsTrue (by_key keys put shard r) → IsAdmitted (with_domains domains q) plan r → IsTrue (to shard r)

-- they are a split still, and where tuples tell the keys they keep combinations of one tuple together
abbrev pub AdmittedRowsSuffice : Type 0
AdmittedRowsSuffice =
    (q : QueryValue) (keys : Keys) → AreEqualKeys q keys
    → (k : ℕ) (put : ℤ → ℕ) → ((z : ℤ) → put z < k)
    → (to : Routing) → ((shard : ℕ) → shard < k → GetsAdmitted q keys put to shard)
    → IsSplit q k to × (TellsKeys q keys → IsDisjoint q k to)
