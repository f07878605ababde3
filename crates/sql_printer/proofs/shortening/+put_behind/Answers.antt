use Rattle.std.proofs.Common.{◌-◌, ◌++◌, length, map, take, drop, ap, sym, ◌∙◌}
use Rattle.sql_printer.specs.Printed.{text_for}
use Rattle.sql_printer.specs.Pieces.{said, close_by, behind_by}
use Rattle.sql_printer.proofs.PieceLists.{behind_rest}
use Rattle.sql_printer.proofs.WritesBehind.{writes_then}
use Rattle.sql_printer.proofs.shortening.+put_behind.Goals as goal

pub returns-in-Ok : goal.returns-in-Ok
returns-in-Ok g t c =
    let others = c.args.others.now in
    let next = c.next-item.result in
    writes_then c.put_behind.result _ _ _ _ _ _
    (behind_rest (close_by c.args.short) (said c.args.last.now) others next c.in-len1-up.len_at_least c.next-item.is
    ∙ ap (λ bs. (bs ++ text_for (said next)) ++ behind_by (close_by c.args.short) (said next) (map said (take (length others - 1) (drop 1 others)))) (sym c.gap.ensures.gap))
    c.in-Ok.ensures c.put_behind.ensures
