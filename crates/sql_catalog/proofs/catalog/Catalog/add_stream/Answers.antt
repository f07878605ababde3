use Rattle.std.proofs.Common.{◌≡◌, ◌<◌, length, true, false, rules, ◌++◌, ◌∷◌, [], arith}
use Rattle.std.specs.List.{list_any, All}
use Rattle.std.specs.Str.{bytes_eq}
use Rattle.sql_catalog.specs.declared.column.ColumnDef.{ColumnDef}
use Rattle.sql_catalog.specs.Streams.{IsName, IsShape, Shape, all_differ, column_names, shapes_of}
use Rattle.sql_catalog.proofs.Catalogs.{catalog_with_new}
use Rattle.sql_catalog.proofs.catalog.Catalog.add_stream.Goals as goal

pub invariant_of-self : goal.invariant_of-self
invariant_of-self c =
    let old = shapes_of c.self.inside.streams.entries in
    let added : Shape = record { name = c.args.name; columns = c.args.columns.now } in
    let names : All (λ (d : ColumnDef). IsName d.name) c.args.columns.now = c.new.ensures.names in
    let differ : all_differ (column_names c.args.columns.now) ≡ true = search rules in
    let shape : IsShape added = record { name = c.checked.ensures.name; names = names; domains = c.requires.domains; some = c.requires.some; few = c.requires.few; differ = differ } in
    let room : length old < 16 = search rules in
    let new : list_any (λ (s : Shape). bytes_eq s.name added.name) old ≡ false = search rules in
    let grown : shapes_of c.add_entry.new.streams.entries ≡ old ++ added ∷ [] = search rules in
    (rw grown (catalog_with_new old added c.self.invariant.0 shape room new), omega (arith, c.self.invariant.1, c.add_entry.ensures.room))
