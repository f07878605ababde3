use Rattle.std.proofs.Common.{refl}
use Rattle.sql_printer.proofs.WritesBehind.{writes_then}
use Rattle.sql_script.proofs.printing.print_script.Goals as goal

pub returns-in-Ok : goal.returns-in-Ok
returns-in-Ok g c = writes_then c.print_line.result _ _ _ _ _ _ refl c.in-Ok.ensures c.print_line.ensures
