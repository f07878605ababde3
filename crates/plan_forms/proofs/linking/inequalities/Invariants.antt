use Rattle.std.proofs.Common.{◌≡◌, ◌≤◌, length, map, filter, take}
use Rattle.sem_query.specs.declared.atom.Op.{Op}
use Rattle.plan_whole.specs.Columns.{atom_of}
use Rattle.sem_forms.specs.Part.{read_as, has_op}
use Rattle.plan_forms.proofs.linking.inequalities.Given as goal

abbrev pub invariant-links : goal.invariant-links
invariant-links l = (map (read_as Op.Lt) l.list.items ≡ filter (has_op Op.Lt) (map atom_of (take l.i l.links))) × (length l.list.items ≤ l.i)
