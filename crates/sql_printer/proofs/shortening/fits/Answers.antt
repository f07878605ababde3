use Rattle.std.proofs.Common.{◌+◌, ◌-◌, length, map, take, drop, ap, sym, ◌∙◌, length-append}
use Rattle.sql_printer.specs.Printed.{text_for, joins, spaced_by}
use Rattle.sql_printer.specs.Pieces.{said, behind_by}
use Rattle.sql_printer.proofs.PieceLists.{spaced_rest, fits_more}
use Rattle.sql_printer.proofs.shortening.fits.Goals as goal

pub returns-then-size-room : goal.returns-then-size-room
returns-then-size-room c =
    let xs = c.args.pieces.now in
    let first = c.first-item.result in
    let rest = behind_by joins (said first) (map said (take (length xs - 1) (drop 1 xs))) in
    c.fits_behind.ensures
    ∙ fits_more c.size_of-size.result (length rest) (length (spaced_by joins (map said xs))) c.args.room
    (ap length (spaced_rest joins xs first c.in-len1-up.len_at_least c.first-item.is) ∙ length-append (text_for (said first)) rest ∙ ap (λ n. n + length rest) (sym c.size_of-size.ensures.size))
    c.if-size-room.true
