use Rattle.std.proofs.Common.{codes}
use Rattle.sql_printer.proofs.WritesBehind.{listed_first}
use Rattle.sql_printer.specs.PrintedParts.{name_text}
use Rattle.sql_printer.proofs.WritesBehind.{writes_then, writes_stop}
use Rattle.sql_printer.proofs.printing.put_names.Goals as goal

pub returns-in-Ok : goal.returns-in-Ok
returns-in-Ok g c = writes_then c.put_more_names.result _ _ _ _ _ _ (listed_first c.args.lead.now (codes ", ") name_text c.args.names.now c.first-item.result c.in-len1-up.len_at_least c.first-item.is) c.in-Ok.ensures c.put_more_names.ensures

pub returns-in-Err : goal.returns-in-Err
returns-in-Err g c = writes_stop _ _ _ _ _ (listed_first c.args.lead.now (codes ", ") name_text c.args.names.now c.first-item.result c.in-len1-up.len_at_least c.first-item.is) c.in-Err.ensures
