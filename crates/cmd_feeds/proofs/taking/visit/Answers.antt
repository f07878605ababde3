use Rattle.std.proofs.Common.{◌∙◌, sym}
use Rattle.cmd_feeds.specs.Visited.{turned}
use Rattle.cmd_feeds.proofs.taking.visit.Goals as goal

pub returns-clause-visited : goal.returns-clause-visited
returns-clause-visited g c = λ s stands.
    turned c.turn_at-turn.result c.status_after.ensures (sym c.is_open_at.ensures ∙ c.if-not-is_open_at.false) (c.turn_at-turn.ensures.turned s stands) c.lines_after.ensures
