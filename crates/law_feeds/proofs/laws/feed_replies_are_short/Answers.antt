use Rattle.law_feeds.proofs.RowsAlone.{feed_replies_are_short}
use Rattle.law_feeds.proofs.laws.feed_replies_are_short.Goals as goal

pub returns : goal.returns
returns c = feed_replies_are_short
