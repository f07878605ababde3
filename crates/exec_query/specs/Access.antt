-- The access path of a query: how it comes from a row to the answers.
use Rattle.std.specs.Prelude.{Bool, true, false, ⊤}
use Rattle.sem_query.specs.declared.plan.Plan.{Plan}
use Rattle.sem_query.specs.Query.{QueryValue}
use Rattle.sem_query.specs.Numbers.{parts_of}
use Rattle.exec_point_lookup.specs.Direct.{AreDirect}
use Rattle.exec_filter.specs.declared.prefilter.Prefilter.{Prefilter}
use Rattle.exec_filter.specs.PlainFilter.{IsPlainFilter}
use Rattle.exec_query.specs.declared.access.Access.{Access}
use Rattle.exec_query.specs.declared.access.Access.TheVariants as access

-- it is that of a filter without DISTINCT
abbrev pub is_filter : Access → Bool
is_filter (access.Filter f) = true
is_filter (access.PointLookup lookups) = false
is_filter access.Plan = false

-- it is one of the query: by the row alone, where the query is a filter without DISTINCT of which this is left to ask; by two cells, where
-- each look-up that is listed is right of the only part; and by the plan any query is answered
abbrev pub IsAccess : QueryValue → Plan → Prefilter → Access → Type 0
IsAccess q p prefilter (access.Filter f) = IsPlainFilter q p prefilter f
IsAccess q p prefilter (access.PointLookup lookups) = AreDirect q (parts_of p) lookups
IsAccess q p prefilter access.Plan = ⊤
