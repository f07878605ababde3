use Rattle.std.proofs.Common.{◌∙◌}
use Rattle.sql_catalog.proofs.NamedShapes.{any-shapes}
use Rattle.sql_catalog.proofs.entries.has_name.Goals as goal

pub returns : goal.returns
returns c = c.contains_key.ensures ∙ any-shapes c.args.name.now c.args.streams.now.entries
