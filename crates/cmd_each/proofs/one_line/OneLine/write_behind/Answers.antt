use Rattle.cmd_each.proofs.OneLines.{passes-other}
use Rattle.cmd_each.proofs.one_line.OneLine.write_behind.Goals as goal

pub returns : goal.returns
returns g c =
    rw c.requires.held
    (passes-other g.B.Base.bytes g.B.Base.low c.write_plain.result _ _ c.args.self.now.sink.ghost_name c.args.byte c.in-Took.field-0 c.args.piece.now _ c.if-byte-eq10.false c.in-Took.ensures c.write_plain.ensures)
