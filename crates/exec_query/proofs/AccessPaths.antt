-- What is known of a query by its access path.
use Rattle.std.proofs.Common.{◌≡◌, ◌<◌, subst}
use Rattle.sem_query.specs.declared.plan.Plan.{Plan}
use Rattle.sem_query.specs.Query.{QueryValue}
use Rattle.sem_query.specs.Numbers.{parts_of}
use Rattle.exec_point_lookup.specs.declared.direct.DirectLookup.{DirectLookup}
use Rattle.exec_point_lookup.specs.declared.direct.DirectLookups.{DirectLookups}
use Rattle.exec_point_lookup.specs.Direct.{IsDirect, IsListedIn, AreDirect}
use Rattle.exec_filter.specs.declared.prefilter.Prefilter.{Prefilter}
use Rattle.exec_filter.specs.declared.plain_filter.PlainFilter.{PlainFilter}
use Rattle.exec_filter.specs.PlainFilter.{IsPlainFilter}
use Rattle.exec_query.specs.declared.access.Access.{Access}
use Rattle.exec_query.specs.declared.access.Access.TheVariants as access
use Rattle.exec_query.specs.Access.{IsAccess}

-- by the row alone rows of a filter without DISTINCT are taken
pub filter-plain : (q : QueryValue) (p : Plan) (prefilter : Prefilter) (a : Access) (f : PlainFilter) → a ≡ access.Filter f → IsAccess q p prefilter a → IsPlainFilter q p prefilter f
filter-plain q p prefilter a f is known = subst (IsAccess q p prefilter) is known

-- a look-up of a stream that a row can have is right of the only part
pub lookup-direct : (q : QueryValue) (p : Plan) (prefilter : Prefilter) (a : Access) (lookups : DirectLookups) (d : DirectLookup) → a ≡ access.PointLookup lookups → IsAccess q p prefilter a → IsListedIn lookups d → d.stream < 256 → IsDirect q (parts_of p) d
lookup-direct q p prefilter a lookups d is known listed there =
    let are : AreDirect q (parts_of p) lookups = subst (IsAccess q p prefilter) is known in
    are d listed there
