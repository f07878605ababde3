-- Rows of which nothing is asked.
use Rattle.std.specs.Prelude.{ℕ, List, length, ℤ, pos, Option, None, Some}
use Rattle.sem_query.specs.Cells.{upto}
use Rattle.sql_catalog.specs.Streams.{Shape, shape_at, domain_at}

-- the least value of a domain, or 0 where there is none
abbrev pub least : Option (ℤ × ℤ) → ℤ
least None = pos 0
least (Some ends) = ends.0

-- the row of a stream that has the least value of each domain, and 0 elsewhere
abbrev pub blank_row : List Shape → ℕ → List ℤ
blank_row streams stream = upto (λ column. least (domain_at streams stream column)) (length (shape_at streams stream).columns)
