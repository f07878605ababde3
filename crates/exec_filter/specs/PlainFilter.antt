-- Filters without DISTINCT.
use Rattle.std.specs.Prelude.{◌≡◌, ◌&&◌, Bool, true, false, [], ◌∷◌, length, map, Some, None, if◌then◌else◌}
use Rattle.std.specs.List.{list_all}
use Rattle.sem_query.specs.declared.plan.Plan.{Plan}
use Rattle.sem_query.specs.declared.plan.Plan.TheVariants as plan
use Rattle.sem_query.specs.Query.{QueryValue}
use Rattle.sem_query.specs.Assignment.{meets}
use Rattle.sem_query.specs.Meaning.{Arrival, assignment_of, by_column}
use Rattle.sem_query.specs.Filter.{filter_tuple}
use Rattle.exec_filter.specs.declared.prefilter.Prefilter.{Prefilter}
use Rattle.exec_filter.specs.declared.plain_filter.PlainFilter.{PlainFilter}
use Rattle.exec_filter.specs.Prefilter.{passes}

-- a row passes the prefilter and meets the comparisons that not every such row meets
abbrev pub plain_filter_meets : Prefilter → PlainFilter → Arrival → Bool
plain_filter_meets prefilter f r = passes prefilter r && list_all (meets (assignment_of (r.values ∷ []))) f.unimplied.items

-- the query is a filter without DISTINCT, whose prefilter has its one stream; of the rows that pass, it answers those that meet these comparisons, by the values of these columns
pub record IsPlainFilter (q : QueryValue) (p : Plan) (prefilter : Prefilter) (f : PlainFilter) : Type 0 where
  pub alone : p ≡ plan.Filter
  pub single : prefilter.others.items ≡ []
  pub plain : q.distinct ≡ false
  pub width : length f.selected.items ≡ length q.select
  pub answers : (r : Arrival) → passes prefilter r ≡ true
      → filter_tuple q r ≡ (if list_all (meets (assignment_of (r.values ∷ []))) f.unimplied.items then Some (map (by_column r.values) f.selected.items) else None)
