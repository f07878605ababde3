-- The text of a script.
use Rattle.std.specs.Prelude.{ℕ, List, [], ◌∷◌, ◌++◌}
use Rattle.std.specs.List.{flat_map}
use Rattle.sql_catalog.specs.Streams.{Shape}
use Rattle.sql_parser.specs.declared.tree.Statement.{Statement}
use Rattle.sql_parser.specs.declared.tree.Statement.TheVariants.{CreateStream}
use Rattle.sql_printer.specs.Printed.{printed_form}

-- the statement that creates a stream
abbrev pub stream_statement : Shape → Statement
stream_statement shape = CreateStream shape.name (record { items = shape.columns })

-- a statement in its printed form, in a line
abbrev pub line_text : Statement → List ℕ
line_text s = printed_form s ++ 10 ∷ []

-- the statements that create these streams, in order
abbrev pub streams_text : List Shape → List ℕ
streams_text streams = flat_map (λ shape. line_text (stream_statement shape)) streams

-- the statements that create the streams, and that of the query
abbrev pub script_text : List Shape → Statement → List ℕ
script_text streams query = streams_text streams ++ line_text query
