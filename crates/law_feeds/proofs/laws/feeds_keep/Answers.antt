use Rattle.law_feeds.proofs.RowsAlone.{feeds_keep}
use Rattle.law_feeds.proofs.laws.feeds_keep.Goals as goal

pub returns : goal.returns
returns c = feeds_keep
