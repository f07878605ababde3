use Rattle.exec_filter.proofs.PassingOn.{box_first}
use Rattle.exec_filter.proofs.passing.+box_among.Goals as goal

pub returns-then-stream_filter-stream : goal.returns-then-stream_filter-stream
returns-then-stream_filter-stream t c =
    box_first c.args.stream_filters.now c.stream_filter-item.result c.args.stream c.box_of.result c.in-len1-up.len_at_least c.stream_filter-item.is c.if-stream_filter-stream.true c.box_of.ensures
