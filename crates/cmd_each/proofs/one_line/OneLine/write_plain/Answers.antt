use Rattle.std.proofs.Common.{subst}
use Rattle.cmd_each.specs.OneLine.{IsUpToFeed}
use Rattle.cmd_each.proofs.OneLines.{holds-feed, passes-plain}
use Rattle.cmd_each.proofs.one_line.OneLine.write_plain.Goals as goal

pub returns-then-count-eq0 : goal.returns-then-count-eq0
returns-then-count-eq0 g c =
    holds-feed g.B.Base.bytes g.B.Base.low c.args.self.now.last _ c.args.self.now.sink.ghost_name c.args.piece.now c.requires.none (subst (IsUpToFeed c.args.piece.now) c.if-count-eq0.true c.plain_len-count.ensures) c.requires.some

pub returns-in-Took : goal.returns-in-Took
returns-in-Took g c =
    passes-plain g.B.Base.bytes g.B.Base.low c.args.self.now.last _ _ c.args.self.now.sink.ghost_name c.args.piece.now c.plain_len-count.result c.in-Took.n c.requires.none c.plain_len-count.ensures c.in-Took.ensures
