-- Rows whose values lie in the domains of their stream, and live queries.
use Rattle.std.proofs.Common.{ℕ, ℤ, List, All}
use Rattle.sql_catalog.specs.Streams.{Shape, KeepsDomains}
use Rattle.sql_parser.specs.Resolution.{HasNamed}
use Rattle.sql_parser.proofs.DomainRows.{rows_keep_domains}
use Rattle.exec_query.specs.Executor.{arrival}
use Rattle.exec_registry.specs.Live.{Live}
use Rattle.exec_registry.specs.Registry.{KeepsToEach}

-- such a row keeps to the domains of each live query, since these are the catalog's
pub keeps_to_each : (streams : List Shape) (stream : ℕ) (values : List ℤ) (live : List Live) → All (λ (l : Live). HasNamed streams l.executor.query) live → KeepsDomains streams stream values
    → KeepsToEach live (arrival stream values)
keeps_to_each streams stream values live named within k d there = rows_keep_domains streams _ (arrival stream values) (named k d there) within
