-- What is kept, by the lines of a checkpoint.
use Rattle.std.specs.Prelude.{ℕ, pos, List, ◌∷◌, ◌++◌, map}
use Rattle.std.specs.List.{flat_map}
use Rattle.sem_query.specs.Bases.{Base}
use Rattle.sql_catalog.specs.Streams.{Shape}
use Rattle.sql_parser.specs.declared.tree.Statement.TheVariants.{ResumeRows}
use Rattle.sql_printer.specs.Printed.{printed_form}
use Rattle.exec_pool.specs.Extents.{PoolValue}
use Rattle.exec_query.specs.Executor.{cells_in, tuples_in}
use Rattle.exec_registry.specs.Live.{Live}
use Rattle.exec_registry.specs.Registry.{RegistryValue}
use Rattle.exec_snapshot.specs.Lines.{kept_statements}
use Rattle.cmd_session.specs.Checkpoint.{stream_line, create_again}

-- what is kept of a live query: its cells, its tuples, and how many rows were given
abbrev pub kept_of : PoolValue → Live → Base
kept_of pool l = record { cells = cells_in l.executor pool; table = tuples_in l.executor; given = l.executor.given }

-- the line that creates it again
abbrev pub live_line : List Shape → Live → List ℕ
live_line streams l = create_again streams l.name l.executor.query l.executor.shared

-- the lines that tell what is kept of it
abbrev pub live_lines : PoolValue → Live → List (List ℕ)
live_lines pool l = map printed_form (kept_statements l.name l.executor.query.distinct (kept_of pool l))

-- the lines that tell all that is kept
abbrev pub lines_kept : List Shape → RegistryValue → ℕ → List (List ℕ)
lines_kept streams r taken = map stream_line streams ++ map (live_line streams) r.live ++ printed_form (ResumeRows (pos taken)) ∷ flat_map (live_lines r.pool) r.live
