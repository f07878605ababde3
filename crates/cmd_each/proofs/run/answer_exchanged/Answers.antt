use Rattle.std.proofs.Common.{rules, subst}
use Rattle.cmd_each.specs.Answered.{FormedAnswered}
use Rattle.cmd_each.specs.Exchange.{exchanged_seen}
use Rattle.cmd_each.specs.OneLine.{closed}
use Rattle.cmd_each.proofs.ToJoined.{line-below, reference-below}
use Rattle.cmd_each.proofs.run.answer_exchanged.Goals as goal

pub returns : goal.returns
returns g c = λ s line begun stands.
    let how = c.answer_any-outcome.result in
    let new = c.answer_any-outcome.new.session in
    let exchange = c.answer_any-outcome.new.output in
    let name = c.new-exchange.result.sink.ghost_name in
    let told = subst (λ o. FormedAnswered closed how s line new (exchanged_seen g.B.Base.low (g.O.Sink.seen o) name) (exchanged_seen g.B.Base.low (g.O.Sink.seen exchange.sink.now) exchange.sink.ghost_name))
    c.new-exchange.ensures.sink (c.answer_any-outcome.ensures s line begun stands) in
    let same = reference-below how g.B.Base.low s line new (g.O.Sink.seen c.args.output.now) (g.O.Sink.seen exchange.sink.now) name exchange.sink.ghost_name c.requires.low told in
    let r = line-below how g.B.Base.low s line new (g.O.Sink.seen c.args.output.now) (g.O.Sink.seen exchange.sink.now) name exchange.sink.ghost_name c.requires.low told in
    search (rules, r, same)
