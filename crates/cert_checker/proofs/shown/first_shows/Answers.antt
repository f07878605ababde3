use Rattle.std.proofs.Common.{sym, ◌∙◌}
use Rattle.cert_checker.proofs.Showing.{shows_here, shows_later, shows_nothing}
use Rattle.cert_checker.proofs.shown.first_shows.Goals as goal

pub returns-in-Some : goal.returns-in-Some
returns-in-Some c = shows_here c.args.lines.now c.loop-line.line-index c.loop-line.invariant c.line-item.result c.in-Some.shown c.loop-line-test.true c.line-item.is (sym c.form_at.ensures ∙ c.in-Some.is)

pub loop-line-preserved : goal.loop-line-preserved
loop-line-preserved c = shows_later c.args.lines.now c.loop-line.line-index c.loop-line.invariant c.line-item.result c.loop-line-test.true c.line-item.is (sym c.form_at.ensures ∙ c.in_default.is)

pub returns : goal.returns
returns c = shows_nothing c.args.lines.now c.loop-line.line-index c.loop-line.invariant c.loop-line-test.false
