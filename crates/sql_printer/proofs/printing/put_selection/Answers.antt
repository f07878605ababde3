use Rattle.std.proofs.Common.{◌++◌, ap, sym}
use Rattle.sql_printer.specs.PrintedParts.{columns_text, sources_text}
use Rattle.sql_printer.proofs.WritesBehind.{writes_then, writes_stop}
use Rattle.sql_printer.proofs.printing.put_selection.Goals as goal

pub returns-in-Ok : goal.returns-in-Ok
returns-in-Ok g c = writes_then c.put_sources.result _ _ _ _ _ _ (ap (λ cs. columns_text cs ++ sources_text c.args.select.now) (sym c.as_slice.ensures.value)) c.in-Ok.ensures c.put_sources.ensures

pub returns-in-Err : goal.returns-in-Err
returns-in-Err g c = writes_stop _ _ _ _ _ (ap (λ cs. columns_text cs ++ sources_text c.args.select.now) (sym c.as_slice.ensures.value)) c.in-Err.ensures
