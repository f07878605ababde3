use Rattle.std.proofs.Common.{true, false, inr}
use Rattle.cmd_feeds.proofs.taking.look.Goals as goal

pub returns-in-Line-clause-looked : goal.returns-in-Line-clause-looked
returns-in-Line-clause-looked g c = inr (false, record { next = c.in-Line.ensures.next; wrote = c.in-Ok.ensures.flushes.0; none = c.in-Ok.ensures.flushes.1 })

pub returns-in-TooLong-clause-looked : goal.returns-in-TooLong-clause-looked
returns-in-TooLong-clause-looked g c = inr (true, record { next = c.in-TooLong.ensures.next; wrote = c.in-Ok.ensures.flushes.0; none = c.in-Ok.ensures.flushes.1 })
