use Rattle.cmd_feeds.proofs.Turned.{turned-more, turned-looked, looked-none}
use Rattle.cmd_feeds.proofs.taking.turn_with.Goals as goal

pub returns-then-not-more-clause-turned : goal.returns-then-not-more-clause-turned
returns-then-not-more-clause-turned g c = λ s stands. turned-looked c.look.result c.args.more s _ _ _ _ _ _ _ _ _ c.if-not-more.true c.look.ensures.looked

pub returns-then-not-more-clause-taken : goal.returns-then-not-more-clause-taken
returns-then-not-more-clause-taken g c = λ answered. absurd (looked-none c.look.result _ _ _ _ _ _ _ _ c.look.ensures.looked answered)

pub returns-clause-turned : goal.returns-clause-turned
returns-clause-turned g c = λ s stands. turned-more c.take_turn.result c.args.more s _ _ _ _ _ _ _ _ _ _ c.if-not-more.false (c.take_turn.ensures.turned s stands)
