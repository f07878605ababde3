use Rattle.std.proofs.Common.{sym, append_assoc}
use Rattle.sql_printer.specs.PrintedParts.{domain_text}
use Rattle.sql_printer.proofs.WritesBehind.{writes_then, writes_stop}
use Rattle.sql_printer.proofs.printing.put_coldef.Goals as goal

pub returns-in-Ok : goal.returns-in-Ok
returns-in-Ok g c =
    writes_then c.put_some_domain.result _ _ _ _ _ _ (sym (append_assoc c.args.lead.now c.args.column.now.name (domain_text c.args.column.now.domain))) c.in-Ok.ensures c.put_some_domain.ensures

pub returns-in-Err : goal.returns-in-Err
returns-in-Err g c = writes_stop _ _ _ _ _ (sym (append_assoc c.args.lead.now c.args.column.now.name (domain_text c.args.column.now.domain))) c.in-Err.ensures
