use Rattle.std.proofs.Common.{◌≡◌, map, take}
use Rattle.sql_parser.specs.Resolution as names
use Rattle.sql_printer.proofs.names.atoms_named.Given as goal

abbrev pub invariant-loop-atom : goal.invariant-loop-atom
invariant-loop-atom l = l.named.items ≡ map (names.atom_named l.catalog l.from) (take l.atom-index l.atoms)
