use Rattle.std.proofs.Common.{◌++◌, codes}
use Rattle.sql_printer.specs.PrintedParts.{atom_text}
use Rattle.sql_printer.proofs.WritesBehind.{stops_at_item}
use Rattle.sql_printer.proofs.printing.put_more_atoms.Goals as goal

pub returns-in-Err : goal.returns-in-Err
returns-in-Err g c = stops_at_item (λ x. codes " AND " ++ atom_text x) c.args.atoms.now c.loop-atom.atom-index c.atom-item.result _ _ _ c.atom-item.is c.loop-atom-test.true c.loop-atom.invariant c.in-Err.ensures
