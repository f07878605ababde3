use Rattle.std.proofs.Common.{◌≡◌, map, take}
use Rattle.fam_fooling_sets.specs.Shown.{rows_in}
use Rattle.fam_text.specs.Blank.{blank_row}
use Rattle.fam_text.proofs.blank.blanks.Given as goal

abbrev pub invariant-loop-i : goal.invariant-loop-i
invariant-loop-i l = rows_in l.list.items ≡ map (blank_row l.catalog) (take l.i l.from)
