use Rattle.cmd_feeds.proofs.OneText.{one-feed-is-a-session}
use Rattle.cmd_feeds.proofs.laws.one_feed_is_a_session.Goals as goal

pub returns : goal.returns
returns c = one-feed-is-a-session
