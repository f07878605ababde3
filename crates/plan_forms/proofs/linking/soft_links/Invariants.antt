use Rattle.std.proofs.Common.{◌≡◌, map, filter, take}
use Rattle.plan_whole.specs.Columns.{atom_of}
use Rattle.sem_forms.specs.Part.{soft_as, is_soft}
use Rattle.plan_forms.proofs.linking.soft_links.Given as goal

abbrev pub invariant-links : goal.invariant-links
invariant-links l = map soft_as l.list.items ≡ filter is_soft (map atom_of (take l.i l.links))
