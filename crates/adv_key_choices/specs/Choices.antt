-- Choices of keys for the streams of a script, and which of those that leave each query exact are the least.
use Rattle.std.specs.Prelude.{◌≡◌, ◌⊎◌, ℕ, ◌<◌, Bool, true, false, List, length, All, AllPairs}
use Rattle.std.specs.List.{AllZip, Any, slice_index_or}
use Rattle.std.specs.declared.option.Option.TheVariants.{None, Some}
use Rattle.sem_query.specs.Query.{QueryValue, attrs_of}
use Rattle.sem_sharding.specs.Keys.{Keys}
use Rattle.adv_key_decision.specs.declared.judging.Judgement.{Judgement}
use Rattle.adv_key_decision.specs.declared.judging.Judgement.TheVariants.{Apart, Deduped, Home, Torn}
use Rattle.adv_key_decision.specs.Equal.{NamesClass}
use Rattle.adv_key_decision.specs.Judged.{by_stream, AreTorn, IsJudged}
use Rattle.adv_key_choices.specs.declared.choice.Choice.{Choice}
use Rattle.adv_key_choices.specs.declared.choice.KeyedQuery.{KeyedQuery}

-- the classes are those of the query's columns
abbrev pub IsKeyed : KeyedQuery → Type 0
IsKeyed k = AllZip (NamesClass k.query) (attrs_of k.query.atoms) k.classes.items

abbrev pub keys_in : Choice → Keys
keys_in c = by_stream c.keys

-- there is room for 16 streams, and each key is a column of a stream, of which each has so many
pub record IsChoice (widths : List ℕ) (c : Choice) : Type 0 where
  pub room : length c.keys ≡ 16
  pub inside : (s column : ℕ) → keys_in c s ≡ Some column → column < slice_index_or widths s 0

-- no query has two keys that are not seen to be equal
abbrev pub IsExact : List KeyedQuery → Choice → Type 0
IsExact queries c = All (λ k. ¬ AreTorn k.query (keys_in c)) queries

-- a query that is at home by the first keys is so by the second, and one that is deduped by the first is deduped or at home by the second
pub record IsNoWorse (q : QueryValue) (first second : Keys) : Type 0 where
  pub home : IsJudged q first Home → IsJudged q second Home
  pub deduped : IsJudged q first Deduped → IsJudged q second Deduped ⊎ IsJudged q second Home

-- each stream that the first choice broadcasts is broadcast by the second
abbrev pub BroadcastsNoMore : Choice → Choice → Type 0
BroadcastsNoMore c d = (s : ℕ) → s < 16 → keys_in c s ≡ None → keys_in d s ≡ None

-- the first choice leaves no query worse, and broadcasts no stream that the second does not
abbrev pub IsAtMost : List KeyedQuery → Choice → Choice → Type 0
IsAtMost queries c d = All (λ k. IsNoWorse k.query (keys_in c) (keys_in d)) queries × BroadcastsNoMore c d

-- each is exact, each exact choice has one of them at most it, and none is at most another
pub record AreLeast (queries : List KeyedQuery) (widths : List ℕ) (list : List Choice) : Type 0 where
  pub exact : All (λ c. IsChoice widths c × IsExact queries c) list
  pub below : (d : Choice) → IsChoice widths d → IsExact queries d → Any (λ c. IsAtMost queries c d) list
  pub apart : AllPairs (λ c d. (¬ IsAtMost queries c d) × (¬ IsAtMost queries d c)) list

-- ---- by judgements

abbrev pub says_torn : Judgement → Bool
says_torn Torn = true
says_torn Apart = false
says_torn Deduped = false
says_torn Home = false

abbrev pub is_home : Judgement → Bool
is_home Home = true
is_home Apart = false
is_home Deduped = false
is_home Torn = false

abbrev pub is_deduped_or_home : Judgement → Bool
is_deduped_or_home Deduped = true
is_deduped_or_home Home = true
is_deduped_or_home Apart = false
is_deduped_or_home Torn = false

abbrev pub no_worse : Judgement → Judgement → Bool
no_worse Home second = is_home second
no_worse Deduped second = is_deduped_or_home second
no_worse Apart second = true
no_worse Torn second = true
