-- A checkpoint: the lines from which a fresh session goes on.
use Rattle.std.specs.Prelude.{ℕ, pos, Bool, List, ◌∷◌, ◌++◌, map}
use Rattle.std.specs.List.{flat_map}
use Rattle.sem_query.specs.Query.{QueryValue}
use Rattle.sql_catalog.specs.Streams.{Shape}
use Rattle.sql_parser.specs.declared.tree.Statement.TheVariants.{CreateStream, CreateQuery, ResumeRows}
use Rattle.sql_printer.specs.Printed.{printed_form, create_line}
use Rattle.sql_parser.specs.Resolution.{named_select}
use Rattle.exec_registry.specs.Live.{LiveQuery, base_in}
use Rattle.exec_snapshot.specs.Lines.{kept_statements}
use Rattle.cmd_session.specs.State.{State}

-- the line that creates a stream again
abbrev pub stream_line : Shape → List ℕ
stream_line shape = printed_form (CreateStream shape.name (record { items = shape.columns }))

-- the line that creates a query again
abbrev pub create_again : List Shape → List ℕ → QueryValue → Bool → List ℕ
create_again streams name query shared = create_line (CreateQuery name (named_select streams query) shared)

abbrev pub query_line : List Shape → LiveQuery → List ℕ
query_line streams live = create_again streams live.name live.query live.shared

-- the lines that tell what a live query keeps
abbrev pub kept_lines : LiveQuery → List (List ℕ)
kept_lines live = map printed_form (kept_statements live.name live.query.distinct (base_in live))

-- The lines of a checkpoint: the streams, the live queries, the number of rows taken, and then what each live query keeps.
abbrev pub checkpoint_lines : State → List (List ℕ)
checkpoint_lines s =
    map stream_line s.streams ++ map (query_line s.streams) s.queries ++ printed_form (ResumeRows (pos s.taken)) ∷ flat_map kept_lines s.queries
