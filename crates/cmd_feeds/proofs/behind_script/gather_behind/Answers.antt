use Rattle.std.proofs.Common.{rules}
use Rattle.cmd_feeds.proofs.behind_script.gather_behind.Goals as goal

pub returns-clause-ran : goal.returns-clause-ran
returns-clause-ran g c = λ limit file stands.
    let r = c.answer_behind-ending.ensures.ran limit file stands in
    search (rules, r)
