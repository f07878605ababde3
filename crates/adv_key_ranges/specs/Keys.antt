-- The keys that a query reads, and the values that their domains have in common.
use Rattle.std.specs.Prelude.{ℕ, ⊤, Bool, if◌then◌else◌, ◌||◌, int_lt, List, [], ◌∷◌, filter, length, Contains, ◌⊎◌}
use Rattle.std.specs.List.{flat_map, list_any, range_with_len, slice_index_or}
use Rattle.std.specs.declared.option.Option.{Option}
use Rattle.std.specs.declared.option.Option.TheVariants.{None, Some}
use Rattle.sem_query.specs.declared.atom.Attr.{Attr}
use Rattle.sem_query.specs.declared.atom.Domain.{Domain}
use Rattle.sem_query.specs.Query.{QueryValue, attr_eq, attrs_of}
use Rattle.sem_sharding.specs.Keys.{Keys}
use Rattle.adv_key_decision.specs.Judged.{key_of_place}
use Rattle.adv_mends.specs.declared.mend.Ends.{Ends}
use Rattle.adv_mends.specs.Mended.{AreEnds}

-- whether a column is among some columns
abbrev pub is_among : List Attr → Attr → Bool
is_among columns a = list_any (λ b. attr_eq b a) columns

-- whether the query compares or selects a column
abbrev pub reads : QueryValue → Attr → Bool
reads q a = is_among (attrs_of q.atoms) a || is_among q.select a

-- a key, where the query reads it
abbrev pub read_key : QueryValue → Option Attr → List Attr
read_key q None = []
read_key q (Some a) = if reads q a then a ∷ [] else []

-- the key column at a place of FROM, where the query reads it
abbrev pub read_key_at : QueryValue → Keys → ℕ → List Attr
read_key_at q keys place = read_key q (key_of_place place (keys (slice_index_or q.from place 0)))

-- the key columns of the streams of FROM that the query reads
unfoldable pub read_keys : QueryValue → Keys → List Attr
read_keys q keys = flat_map (read_key_at q keys) (range_with_len 0 (length q.from))

-- each of some columns is compared or selected
abbrev pub AreRead : QueryValue → List Attr → Type 0
AreRead q columns = (a : Attr) → Contains columns a → Contains (attrs_of q.atoms) a ⊎ Contains q.select a

-- what a domain has in common with a range, or all of it
abbrev pub met : Domain → Option Ends → Ends
met d None = record { lo = d.lo; hi = d.hi }
met d (Some e) = record { lo = if int_lt e.lo d.lo then d.lo else e.lo; hi = if int_lt d.hi e.hi then d.hi else e.hi }

-- what some domains have in common, or none where there is no domain
abbrev pub common : List Domain → Option Ends
common [] = None
common (d ∷ others) = Some (met d (common others))

-- a range that has a value, or none
abbrev pub range_between : Option Ends → Option Ends
range_between None = None
range_between (Some e) = if int_lt e.hi e.lo then None else Some e

-- the ends of the values that the domains of some columns have in common, or none where no one has a domain or there is no such value
unfoldable pub key_range : QueryValue → List Attr → Option Ends
key_range q columns = range_between (common (filter (λ d. is_among columns d.attr) q.domains))

-- they are those of a domain
abbrev pub AreKeyEnds : Option Ends → Type 0
AreKeyEnds None = ⊤
AreKeyEnds (Some ends) = AreEnds ends
