use Rattle.std.proofs.Common.{map, take}
use Rattle.sem_query.specs.FirstBreak.{IsFirstAmong}
use Rattle.sem_whole.specs.Whole.{WholeBreaks}
use Rattle.plan_whole.specs.Columns.{atom_of}
use Rattle.plan_whole_form.proofs.breaking.first_among.Given as goal

abbrev pub invariant-loop-i : goal.invariant-loop-i
invariant-loop-i l = IsFirstAmong (WholeBreaks l.closed (map atom_of l.links) l.condition) (take l.i l.columns) l.found
