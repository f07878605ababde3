use Rattle.std.proofs.Common.{◌≡◌, map, take}
use Rattle.sql_parser.specs.Resolution as names
use Rattle.sql_parser.proofs.resolution.atoms_for.Given as goal

abbrev pub invariant-loop-atom : goal.invariant-loop-atom
invariant-loop-atom l = l.comparisons.items ≡ map (names.atom_for l.catalog l.from) (take l.atom-index l.atoms)
