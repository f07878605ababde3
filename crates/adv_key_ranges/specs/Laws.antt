-- What shards answer whose keys are narrowed to ranges.
use Rattle.std.specs.Prelude.{◌≡◌, ℕ, ◌<◌, ◌≤◌, ◌*◌, ◌/◌, ◌||◌, if◌then◌else◌, IsTrue, ℤ, ◌-ℤ◌, ◌≤ℤ◌, int_lt, nat_abs, List}
use Rattle.std.specs.declared.option.Option.TheVariants.{Some}
use Rattle.sem_query.specs.Query.{QueryValue, IsWithinLimits}
use Rattle.sem_query.specs.Meaning.{Arrival, new_answers}
use Rattle.sem_query.specs.Domains.{RowKeeps, RowsKeep}
use Rattle.sem_query.specs.Tuples.{sorted, new_tuples}
use Rattle.sem_query.specs.Cells.{printed}
use Rattle.sem_sharding.specs.Shards.{Routing, AnswerTogether, shards_answer}
use Rattle.sem_sharding.specs.Keys.{Keys, by_key}
use Rattle.adv_key_decision.specs.declared.judging.Judgement.{Judgement}
use Rattle.adv_key_decision.specs.declared.judging.Judgement.TheVariants.{Apart, Deduped, Home, Torn}
use Rattle.adv_key_decision.specs.Judged.{IsJudged}
use Rattle.adv_mends.specs.declared.mend.Ends.{Ends}
use Rattle.adv_mends.specs.Mended.{AreEnds}
use Rattle.adv_key_ranges.specs.Cutting.{value_count, range_at}
use Rattle.adv_key_ranges.specs.Keys.{read_keys, key_range}
use Rattle.adv_key_ranges.specs.Narrowed.{narrowed}

-- a value lies between two ends
abbrev pub IsBetween : Ends → ℤ → Type 0
IsBetween ends z = (ends.lo ≤ℤ z) × (z ≤ℤ ends.hi)

-- each value between two ends is put into the shard whose range has it, and any other value into any shard
pub record IsPutByRanges (ends : Ends) (k : ℕ) (put : ℤ → ℕ) : Type 0 where
  pub some : (z : ℤ) → put z < k
  pub inside : (z : ℤ) → IsBetween ends z → IsBetween (range_at ends k (put z)) z

-- the shard of a value: as many of the k ranges as begin at or below it, less one, and 0 for what is not between the ends
abbrev pub put_at : Ends → ℕ → ℤ → ℕ
put_at ends k z = if int_lt z ends.lo || int_lt ends.hi z then 0 else nat_abs (z -ℤ ends.lo) * k / value_count ends

-- it is put so
abbrev pub RangesAreFound : Type 0
RangesAreFound = (ends : Ends) (k : ℕ) → AreEnds ends → 0 < k → k ≤ value_count ends → IsPutByRanges ends k (put_at ends k)

-- of the rows that the keys send to a shard it takes at least those that keep to the domains of its narrowed query
pub record TakesKept (q : QueryValue) (keys : Keys) (ends : Ends) (k : ℕ) (put : ℤ → ℕ) (to : Routing) (shard : ℕ) : Type 0 where
  pub only : (r : Arrival) → IsTrue (to shard r) → IsTrue (by_key keys put shard r)
  pub kept : (r : Arrival) → IsTrue (by_key keys put shard r) → RowKeeps (narrowed (read_keys q keys) (range_at ends k shard) q) r → IsTrue (to shard r)

-- of equal tuples the first counts: the tuples that the shards answer and that were not printed before, each once, are what one process answers
abbrev pub AnswerDeduped : QueryValue → ℕ → Routing → Type 0
AnswerDeduped q k to =
    (history : List Arrival) (r : Arrival) → RowsKeep q history → RowKeeps q r
    → sorted (new_tuples (printed q history) (shards_answer q to k history r)) ≡ new_answers q history r

-- what a judgement says of the answers of k shards
abbrev pub AnswersBy : Judgement → QueryValue → ℕ → Routing → Type 0
AnswersBy Apart q k to = AnswerTogether q k to
AnswersBy Deduped q k to = AnswerDeduped q k to
AnswersBy Home q k to = Unit {0}
AnswersBy Torn q k to = Unit {0}

-- shards whose keys are narrowed to ranges answer as what is judged of the keys says, though a row outside of a shard's domains is refused there
abbrev pub RangesAnswer : Type 0
RangesAnswer =
    (q : QueryValue) (keys : Keys) (how : Judgement) (ends : Ends) → IsWithinLimits q → IsJudged q keys how → key_range q (read_keys q keys) ≡ Some ends
    → (k : ℕ) (put : ℤ → ℕ) → IsPutByRanges ends k put
    → (to : Routing) → ((shard : ℕ) → shard < k → TakesKept q keys ends k put to shard) → AnswersBy how q k to
