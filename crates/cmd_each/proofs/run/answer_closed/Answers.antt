use Rattle.std.proofs.Common.{rules, subst}
use Rattle.cmd_session.specs.Session.{Answered}
use Rattle.cmd_each.specs.declared.one_line.Last.{Last}
use Rattle.cmd_each.specs.declared.one_line.Last.TheVariants.{Nothing}
use Rattle.cmd_each.specs.OneLine.{one_line_seen}
use Rattle.cmd_each.proofs.ClosedLines.{reply-reference}
use Rattle.cmd_each.proofs.run.answer_closed.Goals as goal

pub returns : goal.returns
returns g c = λ s line begun stands.
    let one = c.answer_line-outcome.new.output in
    let name = c.new-one.result.sink.ghost_name in
    let begins = subst (λ (l : Last). Answered c.answer_line-outcome.result s line c.answer_line-outcome.new.session (one_line_seen g.B.Base.bytes g.B.Base.low l (g.O.Sink.seen c.new-one.result.sink.now) name) (one_line_seen g.B.Base.bytes g.B.Base.low one.last (g.O.Sink.seen one.sink.now) one.sink.ghost_name))
    c.new-one.ensures.last (c.answer_line-outcome.ensures s line begun stands) in
    let told = subst (λ o. Answered c.answer_line-outcome.result s line c.answer_line-outcome.new.session (one_line_seen g.B.Base.bytes g.B.Base.low Nothing (g.O.Sink.seen o) name) (one_line_seen g.B.Base.bytes g.B.Base.low one.last (g.O.Sink.seen one.sink.now) one.sink.ghost_name))
    c.new-one.ensures.sink begins in
    let same = reply-reference c.answer_line-outcome.result g.B.Base.bytes g.B.Base.low one.last s line c.answer_line-outcome.new.session (g.O.Sink.seen c.args.output.now) (g.O.Sink.seen one.sink.now) name one.sink.ghost_name c.requires.low told in
    let r = c.end_reply-ended.ensures.ends s line c.answer_line-outcome.new.session (g.O.Sink.seen c.args.output.now) name c.requires.bytes c.requires.low told in
    search (rules, r, same)
