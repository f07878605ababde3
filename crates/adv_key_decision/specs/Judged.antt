-- How the shards of a query answer, by the keys of its streams, and what that says of their answers.
use Rattle.std.specs.Prelude.{◌≡◌, ℕ, ◌<◌, Bool, true, false, ℤ, List, Contains}
use Rattle.std.specs.List.{slice_index_or}
use Rattle.std.specs.declared.option.Option.{Option}
use Rattle.std.specs.declared.option.Option.TheVariants.{None, Some}
use Rattle.sem_query.specs.declared.atom.Attr.{Attr}
use Rattle.sem_query.specs.Query.{QueryValue, IsWithinLimits, attrs_of}
use Rattle.sem_query.specs.Assignment.{Assignment}
use Rattle.sem_query.specs.Meaning.{Arrival, new_answers}
use Rattle.sem_query.specs.Domains.{RowKeeps, RowsKeep}
use Rattle.sem_query.specs.Tuples.{sorted, new_tuples}
use Rattle.sem_query.specs.Cells.{printed}
use Rattle.sem_sharding.specs.Shards.{AnswerTogether, IsSplit, share, shards_answer}
use Rattle.sem_sharding.specs.Keys.{Keys, by_key, Fits, IsKey}
use Rattle.adv_key_decision.specs.declared.judging.Judgement.{Judgement}
use Rattle.adv_key_decision.specs.declared.judging.Judgement.TheVariants.{Apart, Deduped, Home, Torn}
use Rattle.adv_key_decision.specs.Equal.{AreSeenEqual}

-- the keys of a list: the key column of each stream by its number, or none where it is broadcast
abbrev pub by_stream : List (Option ℕ) → Keys
by_stream choice stream = slice_index_or choice stream None

-- some stream of FROM has a key, and all keys are seen to be equal
pub record AreSeenKeys (q : QueryValue) (keys : Keys) : Type 0 where
  pub some : (a : Attr) × IsKey q keys a
  pub equal : (a b : Attr) → IsKey q keys a → IsKey q keys b → AreSeenEqual q a b

-- two keys that are not seen to be equal
pub record AreTorn (q : QueryValue) (keys : Keys) : Type 0 where
  pub left : Attr
  pub right : Attr
  pub key : IsKey q keys left
  pub other : IsKey q keys right
  pub unequal : ¬ AreSeenEqual q left right

-- a selected column that is seen to be equal to a column
pub record IsSeenSelected (q : QueryValue) (a : Attr) : Type 0 where
  pub column : Attr
  pub selected : Contains q.select column
  pub equal : AreSeenEqual q a column

-- how the shards answer: no stream of FROM has a key; two keys are not seen to be equal; or all are, and with DISTINCT a selected column is seen to
-- be equal to them, or none is
abbrev pub IsJudged : QueryValue → Keys → Judgement → Type 0
IsJudged q keys Home = (a : Attr) → ¬ IsKey q keys a
IsJudged q keys Torn = AreTorn q keys
IsJudged q keys Apart = AreSeenKeys q keys × (q.distinct ≡ true → (a : Attr) → IsKey q keys a → IsSeenSelected q a)
IsJudged q keys Deduped = AreSeenKeys q keys × (q.distinct ≡ true) × ((a : Attr) → IsKey q keys a → ¬ IsSeenSelected q a)

-- of equal tuples the first counts: the tuples that the shards answer and that were not printed before, each once, are what one process answers
abbrev pub AnswerDeduped : QueryValue → Keys → ℕ → (ℤ → ℕ) → Type 0
AnswerDeduped q keys k put =
    (history : List Arrival) (r : Arrival) → RowsKeep q history → RowKeeps q r
    → sorted (new_tuples (printed q history) (shards_answer q (by_key keys put) k history r)) ≡ new_answers q history r

-- each shard alone answers to each row what one process does
abbrev pub EachAnswers : QueryValue → Keys → (ℤ → ℕ) → Type 0
EachAnswers q keys put =
    (shard : ℕ) (history : List Arrival) (r : Arrival) → new_answers q (share (by_key keys put) shard history) r ≡ new_answers q history r

-- what a judgement says of the answers of k shards, wherever each value of a key is put
abbrev pub AnswersAs : Judgement → QueryValue → Keys → ℕ → (ℤ → ℕ) → Type 0
AnswersAs Apart q keys k put = AnswerTogether q k (by_key keys put)
AnswersAs Deduped q keys k put = AnswerDeduped q keys k put
AnswersAs Home q keys k put = EachAnswers q keys put
AnswersAs Torn q keys k put = Unit {0}

abbrev pub JudgedAnswer : Type 0
JudgedAnswer =
    (q : QueryValue) (keys : Keys) (how : Judgement) → IsWithinLimits q → IsJudged q keys how
    → (k : ℕ) (put : ℤ → ℕ) → ((z : ℤ) → put z < k) → AnswersAs how q keys k put

-- keys that comparisons name, and that split a query of which an assignment counts between two shards wherever each value is put, are not torn
abbrev pub SplitsAreSeen : Type 0
SplitsAreSeen =
    (q : QueryValue) (keys : Keys) → IsWithinLimits q → ((a : Attr) → IsKey q keys a → Contains (attrs_of q.atoms) a)
    → ((put : ℤ → ℕ) → ((z : ℤ) → put z < 2) → IsSplit q 2 (by_key keys put))
    → (v : Assignment) → Fits q v → ¬ AreTorn q keys

-- ---- one key after the other

-- the key column at a place of FROM
abbrev pub key_of_place : ℕ → Option ℕ → Option Attr
key_of_place place None = None
key_of_place place (Some column) = Some record { stream = place; column = column }

-- a key, or none where no stream of FROM has one
abbrev pub IsSomeKey : QueryValue → Keys → Option Attr → Type 0
IsSomeKey q keys None = (a : Attr) → ¬ IsKey q keys a
IsSomeKey q keys (Some a) = IsKey q keys a

-- the key at a place of FROM, where there is one, is seen to be equal to a column
abbrev pub IsEqualAt : QueryValue → Keys → Attr → ℕ → Type 0
IsEqualAt q keys a place = (b : Attr) → b.stream ≡ place → IsKey q keys b → AreSeenEqual q a b

-- each key is
abbrev pub AreAllSeenEqual : QueryValue → Keys → Attr → Type 0
AreAllSeenEqual q keys a = (b : Attr) → IsKey q keys b → AreSeenEqual q a b

-- some key is not
pub record IsOneUnequal (q : QueryValue) (keys : Keys) (a : Attr) : Type 0 where
  pub key : Attr
  pub is : IsKey q keys key
  pub unequal : ¬ AreSeenEqual q a key

-- whether each key is
abbrev pub OnAllEqual : QueryValue → Keys → Attr → Bool → Type 0
OnAllEqual q keys a true = AreAllSeenEqual q keys a
OnAllEqual q keys a false = IsOneUnequal q keys a
