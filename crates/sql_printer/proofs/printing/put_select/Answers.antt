use Rattle.std.proofs.Common.{refl}
use Rattle.sql_printer.proofs.WritesBehind.{writes_then, writes_stop}
use Rattle.sql_printer.proofs.printing.put_select.Goals as goal

pub returns-in-Ok : goal.returns-in-Ok
returns-in-Ok g c = writes_then c.put_selection.result _ _ _ _ _ _ (refl) c.in-Ok.ensures c.put_selection.ensures

pub returns-in-Err : goal.returns-in-Err
returns-in-Err g c = writes_stop _ _ _ _ _ (refl) c.in-Err.ensures
