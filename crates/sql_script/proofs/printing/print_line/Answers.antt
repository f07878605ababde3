use Rattle.std.proofs.Common.{refl}
use Rattle.sql_printer.proofs.WritesBehind.{writes_then}
use Rattle.sql_script.proofs.printing.print_line.Goals as goal

pub returns-in-Ok : goal.returns-in-Ok
returns-in-Ok g c = writes_then c.write_all.result _ _ _ _ _ _ refl c.in-Ok.ensures c.write_all.ensures
