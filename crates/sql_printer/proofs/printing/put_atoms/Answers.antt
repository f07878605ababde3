use Rattle.std.proofs.Common.{codes}
use Rattle.sql_printer.proofs.WritesBehind.{listed_first}
use Rattle.sql_printer.specs.PrintedParts.{atom_text}
use Rattle.sql_printer.proofs.WritesBehind.{writes_then, writes_stop}
use Rattle.sql_printer.proofs.printing.put_atoms.Goals as goal

pub returns-in-Ok : goal.returns-in-Ok
returns-in-Ok g c = writes_then c.put_more_atoms.result _ _ _ _ _ _ (listed_first (codes " WHERE ") (codes " AND ") atom_text c.args.atoms.now c.first-item.result c.in-len1-up.len_at_least c.first-item.is) c.in-Ok.ensures c.put_more_atoms.ensures

pub returns-in-Err : goal.returns-in-Err
returns-in-Err g c = writes_stop _ _ _ _ _ (listed_first (codes " WHERE ") (codes " AND ") atom_text c.args.atoms.now c.first-item.result c.in-len1-up.len_at_least c.first-item.is) c.in-Err.ensures
