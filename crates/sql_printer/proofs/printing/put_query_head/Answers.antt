use Rattle.std.proofs.Common.{◌++◌, ap, sym, codes}
use Rattle.sql_printer.proofs.WritesBehind.{writes_then, writes_stop}
use Rattle.sql_printer.proofs.printing.put_query_head.Goals as goal

pub returns-in-Ok : goal.returns-in-Ok
returns-in-Ok g c = writes_then c.write_all.result _ _ _ _ _ _ (ap (λ words. (words ++ c.args.name.now) ++ codes " AS ") (sym c.create_text.ensures)) c.in-Ok.ensures c.write_all.ensures

pub returns-in-Err : goal.returns-in-Err
returns-in-Err g c = writes_stop _ _ _ _ _ (ap (λ words. (words ++ c.args.name.now) ++ codes " AS ") (sym c.create_text.ensures)) c.in-Err.ensures
