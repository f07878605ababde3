use Rattle.std.proofs.Common.{rules}
use Rattle.cmd_feeds.proofs.program.gather.Goals as goal

pub returns : goal.returns
returns g c = λ s stands.
    let r = c.take_turns-status.ensures.ran s stands in
    search (rules, r)
