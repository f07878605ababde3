use Rattle.std.proofs.Common.{◌≡◌, [], ◌∷◌, ◌++◌, length, length-append, ◌∙◌, ap, arith}
use Rattle.sql_catalog.specs.Streams.{shapes_of}
use Rattle.sql_catalog.proofs.NamedShapes.{length-shapes, succeeded, shapes-insert}
use Rattle.sql_catalog.proofs.entries.add_entry.Goals as goal

pub returns-clause-entries : goal.returns-clause-entries
returns-clause-entries c =
    let grown = succeeded c.insert.result _ (c.insert.ensures.succeeds c.requires.room) c.insert.ensures.entries in
    ap shapes_of grown ∙ shapes-insert c.args.streams.now c.args.name c.args.columns c.requires.new

pub returns-clause-room : goal.returns-clause-room
returns-clause-room c =
    let old = shapes_of c.args.streams.now.entries in
    let longer : length (shapes_of c.insert.new.self.entries) ≡ length (old ++ record { name = c.args.name; columns = c.args.columns } ∷ []) = ap length (returns-clause-entries c) in
    omega (arith, longer, length-append old (record { name = c.args.name; columns = c.args.columns } ∷ []), length-shapes c.args.streams.now.entries, length-shapes c.insert.new.self.entries, c.insert.ensures.spare)
