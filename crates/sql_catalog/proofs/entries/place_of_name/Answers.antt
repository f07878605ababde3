use Rattle.std.proofs.Common.{◌∙◌}
use Rattle.sql_catalog.proofs.NamedShapes.{position-shapes}
use Rattle.sql_catalog.proofs.entries.place_of_name.Goals as goal

pub returns-clause-place : goal.returns-clause-place
returns-clause-place c = c.get_index_of.ensures.index ∙ position-shapes c.args.name.now c.args.streams.now.entries
