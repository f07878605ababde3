use Rattle.std.proofs.Common.{sym, ◌∙◌}
use Rattle.sql_text.proofs.line.cut.Goals as goal
use Rattle.sql_text.proofs.Cuts.{slice_split-some, slice_split-none}

pub returns-in-Some-clause-parts : goal.returns-in-Some-clause-parts
returns-in-Some-clause-parts c = slice_split-some _ _ _ (sym c.place_of.ensures ∙ c.in-Some.is)

pub returns-in-None-clause-parts : goal.returns-in-None-clause-parts
returns-in-None-clause-parts c = slice_split-none _ _ (sym c.place_of.ensures ∙ c.in-None.is)
