use Rattle.cmd_feeds.proofs.Turns.{one-feed}
use Rattle.cmd_feeds.proofs.laws.one_feed_gives_its_lines.Goals as goal

pub returns : goal.returns
returns c = one-feed
