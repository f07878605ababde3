use Rattle.cmd_feeds.proofs.OneText.{one-feeds-text}
use Rattle.cmd_feeds.proofs.laws.one_feeds_text.Goals as goal

pub returns : goal.returns
returns c = one-feeds-text
