use Rattle.std.proofs.Common.{[], codes}
use Rattle.sql_printer.specs.PrintedParts.{coldef_text}
use Rattle.sql_printer.proofs.WritesBehind.{listed_first, writes_then, writes_stop}
use Rattle.sql_printer.proofs.printing.put_coldefs.Goals as goal

pub returns-in-Ok : goal.returns-in-Ok
returns-in-Ok g c = writes_then c.put_more_coldefs.result _ _ _ _ _ _ (listed_first [] (codes ", ") coldef_text c.args.columns.now c.first-item.result c.in-len1-up.len_at_least c.first-item.is) c.in-Ok.ensures c.put_more_coldefs.ensures

pub returns-in-Err : goal.returns-in-Err
returns-in-Err g c = writes_stop _ _ _ _ _ (listed_first [] (codes ", ") coldef_text c.args.columns.now c.first-item.result c.in-len1-up.len_at_least c.first-item.is) c.in-Err.ensures
