use Rattle.sql_printer.specs.Pieces.{close_by}
use Rattle.sql_printer.proofs.PieceLists.{spaced_rest}
use Rattle.sql_printer.proofs.WritesBehind.{writes_then}
use Rattle.sql_printer.proofs.shortening.put_pieces.Goals as goal

pub returns-in-Ok : goal.returns-in-Ok
returns-in-Ok g c =
    writes_then c.put_behind.result _ _ _ _ _ _
    (spaced_rest (close_by c.args.short) c.args.pieces.now c.first-item.result c.in-len1-up.len_at_least c.first-item.is)
    c.in-Ok.ensures c.put_behind.ensures
