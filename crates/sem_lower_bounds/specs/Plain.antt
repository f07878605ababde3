-- The queries of which the laws on states speak.
use Rattle.std.specs.Prelude.{◌≡◌, [], All, IsFalse}
use Rattle.sem_query.specs.Query.{QueryValue, is_soft}

-- no column has a domain
abbrev pub HasNoDomains : QueryValue → Type 0
HasNoDomains q = q.domains ≡ []

-- no comparison is soft, no column has a domain, and the query is not compact
pub record IsPlain (q : QueryValue) : Type 0 where
  pub hard : All (λ t. IsFalse (is_soft t.op)) q.atoms
  pub domains : HasNoDomains q
  pub compact : IsFalse q.compact
