-- Rows that go to shards by the value of a key column: which keys split a query.
use Rattle.std.specs.Prelude.{◌≡◌, ◌↔◌, ◌⊎◌, ℕ, suc, ◌<◌, ◌==◌, Bool, true, false, if◌then◌else◌, nat_eq, ℤ, List, [], ◌∷◌, ◌++◌, filter, length, Contains}
use Rattle.std.specs.List.{slice_index_or, list_all, list_any}
use Rattle.std.specs.declared.option.Option.{Option}
use Rattle.std.specs.declared.option.Option.TheVariants.{None, Some}
use Rattle.sem_query.specs.declared.atom.Attr.{Attr}
use Rattle.sem_query.specs.declared.atom.Element.TheVariants as element
use Rattle.sem_query.specs.declared.atom.Op.{Op}
use Rattle.sem_query.specs.declared.atom.Op.TheVariants.{Eq}
use Rattle.sem_query.specs.declared.part.Sign.{Sign}
use Rattle.sem_query.specs.Query.{QueryValue, IsWithinLimits}
use Rattle.sem_query.specs.Assignment.{Assignment, Holds, KeepsDomains, projected}
use Rattle.sem_query.specs.Meaning.{by_column}
use Rattle.sem_query.specs.Groups.{same_group}
use Rattle.sem_query.specs.Parts.{InPart, AreParts}
use Rattle.sem_query.specs.Order.{IsEqual}
use Rattle.sem_sharding.specs.Shards.{Routing, IsDealt, IsSent, IsSplit, IsDisjoint}

-- the key column of each stream, or none where the stream is broadcast
abbrev pub Keys : Type 0
Keys = ℕ → Option ℕ

-- whether a row goes to a shard: a broadcast row goes to each, and any other where the value of its key is put
abbrev pub goes_by : Option ℕ → (ℤ → ℕ) → Routing
goes_by None put shard r = true
goes_by (Some column) put shard r = nat_eq (put (by_column r.values column)) shard

abbrev pub by_key : Keys → (ℤ → ℕ) → Routing
by_key keys put shard r = goes_by (keys r.stream) put shard r

-- by keys the rows of a stream with a key are dealt, and those of another are sent to each shard
abbrev pub KeysDeal : Type 0
KeysDeal =
    (keys : Keys) (k : ℕ) (put : ℤ → ℕ) → ((z : ℤ) → put z < k)
    → ((stream column : ℕ) → keys stream ≡ Some column → IsDealt k (by_key keys put) stream)
    × ((stream shard : ℕ) → keys stream ≡ None → IsSent (by_key keys put) shard stream)

-- a column of a stream of FROM that is its key
pub record IsKey (q : QueryValue) (keys : Keys) (a : Attr) : Type 0 where
  pub place : a.stream < length q.from
  pub key : keys (slice_index_or q.from a.stream 0) ≡ Some a.column

-- an assignment that counts keeps to the domains, and the condition holds of it
pub record Fits (q : QueryValue) (v : Assignment) : Type 0 where
  pub keeps : KeepsDomains q v
  pub holds : Holds q v

-- some stream of FROM has a key, and all keys are equal in every assignment that counts
pub record AreEqualKeys (q : QueryValue) (keys : Keys) : Type 0 where
  pub some : (a : Attr) × IsKey q keys a
  pub equal : (a b : Attr) → IsKey q keys a → IsKey q keys b → (v : Assignment) → Fits q v → v a ≡ v b

-- a tuple tells the key: assignments of one tuple that count have it in common
abbrev pub TellsKeys : QueryValue → Keys → Type 0
TellsKeys q keys =
    (a : Attr) → IsKey q keys a → (v w : Assignment) → Fits q v → Fits q w → projected q v ≡ projected q w → v a ≡ w a

-- equal keys split a query among any number of shards, wherever each value is put: by a hash, by ranges or by a table
abbrev pub KeysSplit : Type 0
KeysSplit =
    (q : QueryValue) (keys : Keys) → AreEqualKeys q keys
    → (k : ℕ) (put : ℤ → ℕ) → ((z : ℤ) → put z < k) → IsSplit q k (by_key keys put)

-- and where tuples tell them, they keep combinations of one tuple together
abbrev pub TuplesTellShards : Type 0
TuplesTellShards =
    (q : QueryValue) (keys : Keys) → AreEqualKeys q keys → TellsKeys q keys
    → (k : ℕ) (put : ℤ → ℕ) → ((z : ℤ) → put z < k) → IsDisjoint q k (by_key keys put)

-- whether a comparison is `=`
abbrev pub is_equality : Op → Bool
is_equality Eq = true
is_equality op = false

-- whether comparisons `=` of the query join two columns, in one step or in several
abbrev pub are_linked : QueryValue → Attr → Attr → Bool
are_linked q a b = same_group (filter (λ t. is_equality t.op) q.atoms) a b

abbrev pub key_at : ℕ → Option ℕ → List Attr
key_at place None = []
key_at place (Some column) = record { stream = place; column = column } ∷ []

-- the keys of the streams of FROM, from a place on
abbrev pub keys_from : Keys → ℕ → List ℕ → List Attr
keys_from keys place [] = []
keys_from keys place (s ∷ from) = key_at place (keys s) ++ keys_from keys (suc place) from

-- whether the first column is linked to each other one
abbrev pub all_linked : QueryValue → List Attr → Bool
all_linked q [] = false
all_linked q (a ∷ others) = list_all (are_linked q a) others

-- the rule by the text of a query: some stream of FROM has a key, and comparisons `=` join all keys
abbrev pub splits_by : QueryValue → Keys → Bool
splits_by q keys = all_linked q (keys_from keys 0 q.from)

-- and: comparisons `=` join one of them to a selected column
abbrev pub tells_by : QueryValue → Keys → Bool
tells_by q keys = list_any (λ key. list_any (are_linked q key) q.select) (keys_from keys 0 q.from)

abbrev pub LinkedKeysAreEqual : Type 0
LinkedKeysAreEqual = (q : QueryValue) (keys : Keys) → splits_by q keys ≡ true → AreEqualKeys q keys

abbrev pub SelectedKeysAreTold : Type 0
SelectedKeysAreTold = (q : QueryValue) (keys : Keys) → AreEqualKeys q keys → tells_by q keys ≡ true → TellsKeys q keys

-- the rule by the parts of a query: columns are equal in every assignment that counts exactly where they are in each part
abbrev pub EqualInParts : Type 0
EqualInParts =
    (q : QueryValue) (parts : List (List Sign)) → AreParts q parts → (a b : Attr)
    → ((v : Assignment) → Fits q v → v a ≡ v b) ↔ ((s : List Sign) → Contains parts s → IsEqual q s (element.Attr a) (element.Attr b))

-- in two parts the tuple tells a column: in both a selected column equals it, and the same one, or in both it has one value
pub data TellsIn (q : QueryValue) (a : Attr) (s t : List Sign) : Type 0 where
  same : (b : Attr) → Contains q.select b → IsEqual q s (element.Attr a) (element.Attr b) → IsEqual q t (element.Attr a) (element.Attr b) → TellsIn q a s t
  fixed : (x : ℤ) → ((v : Assignment) → InPart q s v ⊎ InPart q t v → v a ≡ x) → TellsIn q a s t

-- a tuple tells the keys where in every two parts it tells one of them
abbrev pub PartsTell : Type 0
PartsTell =
    (q : QueryValue) (keys : Keys) (parts : List (List Sign)) → AreEqualKeys q keys → AreParts q parts
    → (a : Attr) → IsKey q keys a → ((s t : List Sign) → Contains parts s → Contains parts t → TellsIn q a s t) → TellsKeys q keys

-- one stream has a key, all others are broadcast
abbrev pub alone : ℕ → ℕ → Keys
alone stream column s = if s == stream then Some column else None

-- any column of any stream of FROM will do: so every query has a split
abbrev pub OneKeyAlone : Type 0
OneKeyAlone =
    (q : QueryValue) (place column : ℕ) → IsWithinLimits q → place < length q.from
    → AreEqualKeys q (alone (slice_index_or q.from place 0) column)
