use Rattle.law_feeds.proofs.RowsAlone.{feed_lines_are_exchanged}
use Rattle.law_feeds.proofs.laws.feed_lines_are_exchanged.Goals as goal

pub returns : goal.returns
returns c = feed_lines_are_exchanged
