-- A row at the front of what a reader has ahead is a line.
use Rattle.std.proofs.Common.{ℕ, ◌≤◌, List, [], ◌∷◌, ◌++◌, length, drop, subst, Option}
use Rattle.std.proofs.lemmas.List.{drop-append-le}
use Rattle.io_line_reader.specs.Reading.{IsFirstFeed}
use Rattle.sql_catalog.specs.Streams.{Shape}
use Rattle.io_row_reader.specs.Counted.{IsSomeRowAhead}
use Rattle.io_row_reader.proofs.RowsAhead.{lies_ahead}

-- a row that stands in what is ahead, where one LF more stands behind that
pub record Stands (streams : List Shape) (opened : Option (List ℕ)) (ahead : List ℕ) (place len : ℕ) : Type 0 where
  pub feed : IsFirstFeed (drop place ahead) len
  pub short : len ≤ 1024
  pub row : IsSomeRowAhead streams opened (drop place ahead ++ 10 ∷ []) len

pub stands : (streams : List Shape) (opened : Option (List ℕ)) (ahead : List ℕ) (place len : ℕ) → place ≤ length ahead → IsSomeRowAhead streams opened (drop place (ahead ++ 10 ∷ [])) len → Stands streams opened ahead place len
stands streams opened ahead place len room h =
    let is = subst (λ (t : List ℕ). IsSomeRowAhead streams opened t len) (drop-append-le place ahead (10 ∷ []) room) h in
    record { feed = (lies_ahead (drop place ahead) len is.row.feed is.row.before).feed; short = is.row.short; row = is }
