-- What a line asks for.
use Rattle.std.specs.Prelude.{ℕ, Bool, ℤ, List}
use Rattle.sem_query.specs.Query.{QueryValue}
use Rattle.sem_query.specs.Bases.{Base}
use Rattle.sql_catalog.specs.declared.column.ColumnDef.{ColumnDef}
use Rattle.sql_replies.specs.declared.refusal.Refusal.{Refusal}
use Rattle.cmd_session.specs.Lock.{Lock}

-- What a line asks for: nothing; a stream of this name, with these columns and their domains; a query under this name, with shared
-- cells or without, on which a verdict is due; that the live query of this name is explained, or dropped; that a row of the stream of this number is taken; a
-- checkpoint; that so many rows count as taken; that the live query of this name goes on from this base; that this lock stands, or none. Or
-- the line is refused.
pub data Request : Type 0 where
  silent : Request
  created : List ℕ → List ColumnDef → Request
  asked : List ℕ → QueryValue → Bool → Request
  explained : List ℕ → Request
  dropped : List ℕ → Request
  taken : ℕ → List ℤ → Request
  saved : Request
  resumed : ℕ → Request
  based : List ℕ → Base → Request
  locked : Lock → Request
  unlocked : Request
  refused : Refusal → Request
