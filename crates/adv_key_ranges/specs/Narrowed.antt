-- A query whose keys have narrower domains.
use Rattle.std.specs.Prelude.{not, if◌then◌else◌, List, [], ◌∷◌, filter}
use Rattle.sem_query.specs.declared.atom.Attr.{Attr}
use Rattle.sem_query.specs.declared.atom.Domain.{Domain}
use Rattle.sem_query.specs.Query.{QueryValue}
use Rattle.adv_mends.specs.declared.mend.Ends.{Ends}
use Rattle.adv_mends.specs.Mended.{domains_with}
use Rattle.adv_key_ranges.specs.Keys.{is_among}

-- the domains of all columns but some
abbrev pub of_others : List Attr → List Domain → List Domain
of_others columns domains = filter (λ d. not (is_among columns d.attr)) domains

-- a domain, where its column is not among some
abbrev pub other : List Attr → Domain → List Domain
other columns d = if is_among columns d.attr then [] else d ∷ []

-- the query with the values between two ends as the domain of each of some columns
abbrev pub narrowed : List Attr → Ends → QueryValue → QueryValue
narrowed columns ends q = record q { domains = domains_with ends (of_others columns q.domains) columns }
