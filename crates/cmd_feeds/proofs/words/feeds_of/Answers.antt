use Rattle.cmd_feeds.proofs.WordForms.{feeds-of}
use Rattle.cmd_feeds.proofs.words.feeds_of.Goals as goal

pub returns : goal.returns
returns c =
    let asks = c.if-not-asks_feeds.ensures in
    feeds-of c.args.words.now c.split_at.result.1.now c.read_behind.result asks.0 asks.1 c.split_at.ensures.back c.read_behind.ensures
