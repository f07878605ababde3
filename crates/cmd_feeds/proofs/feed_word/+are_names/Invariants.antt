use Rattle.std.proofs.Common.{length}
use Rattle.cmd_feeds.proofs.feed_word.+are_names.Given as goal

abbrev pub decreases-are_names : goal.decreases-are_names
decreases-are_names l = length l.text.now
