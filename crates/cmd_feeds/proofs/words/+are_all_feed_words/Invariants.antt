use Rattle.std.proofs.Common.{length}
use Rattle.cmd_feeds.proofs.words.+are_all_feed_words.Given as goal

abbrev pub decreases-are_all_feed_words : goal.decreases-are_all_feed_words
decreases-are_all_feed_words l = length l.words.now
