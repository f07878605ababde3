use Rattle.std.proofs.Common.{◌≡◌, drop}
use Rattle.exec_synopsis.specs.Narrowing.{binding_column}
use Rattle.exec_synopsis.proofs.known.binding_column.Given as goal

abbrev pub invariant-links : goal.invariant-links
invariant-links l = binding_column l.arriving l.place l.a l.links ≡ binding_column l.arriving l.place l.a (drop l.link-index l.links)
