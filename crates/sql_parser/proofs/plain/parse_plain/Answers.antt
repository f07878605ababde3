use Rattle.std.proofs.Common.{sym, subst}
use Rattle.sql_parser.specs.declared.plain.PlainReading.{PlainReading}
use Rattle.sql_parser.specs.Outlines.{IsReading}
use Rattle.sql_parser.proofs.PlainRead.{outline_read, outline_ends}
use Rattle.sql_parser.proofs.plain.parse_plain.Goals as goal

pub returns-then-is_end : goal.returns-then-is_end
returns-then-is_end c =
    let P : PlainReading → Type 0 = λ r. IsReading c.args.line.now r in
    subst P (sym c.reading_in.ensures) (outline_read c.args.line.now c.in-Ok.outline c.in-Ok.ensures (sym c.if-is_end.ensures))

pub returns-else-is_end : goal.returns-else-is_end
returns-else-is_end c = outline_ends c.args.line.now c.in-Ok.outline c.in-Ok.ensures (sym c.if-is_end.ensures)
