-- Which rows a query does not care for, told by the ranges of their columns alone.
use Rattle.std.specs.Prelude.{◌≡◌, ℕ, ◌<◌, ◌&&◌, ◌||◌, not, ◌==◌, Bool, true, false, ℤ, pos, neg_ℤ, int_lt, ◌≤ℤ◌, List, [], ◌∷◌, length, if◌then◌else◌, slice_index_or, slice_get, Option, Some, None}
use Rattle.std.specs.List.{list_all}
use Rattle.std.specs.Ordering.{int_eq}
use Rattle.sem_query.specs.declared.plan.PartPlan.{PartPlan}
use Rattle.sem_query.specs.declared.plan.Plan.{Plan}
use Rattle.sem_query.specs.declared.plan.Plan.TheVariants as plan
use Rattle.sem_query.specs.Query.{QueryValue}
use Rattle.sem_query.specs.Meaning.{Arrival, by_column}
use Rattle.sem_query.specs.Plan.{dims_at}
use Rattle.sem_query.specs.Filter.{filter_tuple}
use Rattle.sem_query.specs.Admission.{admits, in_range}
use Rattle.exec_filter.specs.declared.interval.ValueInterval.{ValueInterval}
use Rattle.exec_filter.specs.declared.prefilter.ColumnInterval.{ColumnInterval}
use Rattle.exec_filter.specs.declared.prefilter.StreamFilter.{StreamFilter}
use Rattle.exec_filter.specs.declared.prefilter.Prefilter.{Prefilter}

-- an integer is not below the least of the bounds, of which the least integer of 64 bits is none
abbrev pub is_above : ℤ → ℤ → Bool
is_above least x = int_eq least (neg_ℤ (pos 9223372036854775808)) || not (int_lt x least)

-- nor above the greatest, of which the greatest integer of 64 bits is none
abbrev pub is_below : ℤ → ℤ → Bool
is_below greatest x = int_eq greatest (pos 9223372036854775807) || not (int_lt greatest x)

-- an integer lies within bounds
abbrev pub lies_in : ValueInterval → ℤ → Bool
lies_in b x = is_above b.least x && is_below b.greatest x

-- it is one of those from the least to the greatest
pub record Encloses (b : ValueInterval) (x : ℤ) : Type 0 where
  pub low : b.least ≤ℤ x
  pub high : x ≤ℤ b.greatest

-- a row, given by its values by column, lies within a range
abbrev pub is_within : (ℕ → ℤ) → ColumnInterval → Bool
is_within v r = lies_in r.interval (v r.column)

-- the same where there is a range
abbrev pub is_within_some : (ℕ → ℤ) → Option ColumnInterval → Bool
is_within_some v None = true
is_within_some v (Some r) = is_within v r

-- a stream's filter lets a row in that lies within all its ranges
abbrev pub lets_in : StreamFilter → (ℕ → ℤ) → Bool
lets_in e v = is_within v e.first && list_all (is_within v) e.others.items

-- a row comes in where the filter of its stream lets it in, which is the first of its number
abbrev pub comes_in : Arrival → List StreamFilter → Bool
comes_in r [] = false
comes_in r (e ∷ es) = if e.stream == r.stream then lets_in e (by_column r.values) else comes_in r es

-- a row passes the prefilter
abbrev pub passes : Prefilter → Arrival → Bool
passes prefilter r = comes_in r (prefilter.front ∷ prefilter.others.items)

-- a filter does not answer the row; or no part admits it
abbrev pub IsRefused : QueryValue → Plan → Arrival → Type 0
IsRefused q plan.Filter r = filter_tuple q r ≡ None
IsRefused q (plan.Parts parts numbers) r =
    (n : ℕ) (d : PartPlan) (place : ℕ) → n < length parts → place < length q.from → slice_index_or q.from place 0 ≡ r.stream
    → admits q (slice_index_or parts n d) place (by_column r.values) ≡ false

-- a row that does not pass is refused
abbrev pub IsPrefilter : QueryValue → Plan → Prefilter → Type 0
IsPrefilter q p prefilter = (r : Arrival) → passes prefilter r ≡ false → IsRefused q p r

-- each row in the ranges of the dims of some part at a place passes the test
abbrev pub Passes : List PartPlan → ℕ → ((ℕ → ℤ) → Bool) → Type 0
Passes parts place test =
    (n : ℕ) (d : PartPlan) → n < length parts → (v : ℕ → ℤ) → list_all (in_range v) (dims_at (slice_index_or parts n d) place) ≡ true → test v ≡ true

-- what is listed of each stream of FROM
pub record AreStreamFilters (from : List ℕ) (parts : List PartPlan) (stream_filters : List StreamFilter) : Type 0 where
  pub size : length stream_filters ≡ length from
  pub streams : (place : ℕ) (e : StreamFilter) → slice_get stream_filters place ≡ Some e → e.stream ≡ slice_index_or from place 0
  pub ranges : (place : ℕ) (e : StreamFilter) → slice_get stream_filters place ≡ Some e → Passes parts place (lets_in e)
