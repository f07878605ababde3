use Rattle.std.proofs.Common.{◌∙◌, arith}
use Rattle.cmd_each.proofs.Exchanging.{writes-exchanged}
use Rattle.cmd_each.proofs.exchange.ExchangeSink.write.Goals as goal

pub returns : goal.returns
returns g c =
    writes-exchanged c.write.result c.args.piece.now c.as_slice.result.now c.min-count.result g.B.Base.low _ _ c.args.self.now.sink.ghost_name (c.as_slice.ensures.value ∙ c.exchange_all-bytes.ensures)
    (omega (arith, c.min-count.ensures)) c.write.ensures
