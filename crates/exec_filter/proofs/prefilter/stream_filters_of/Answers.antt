use Rattle.exec_filter.proofs.PrefilterLaws.{stream_filters_more}
use Rattle.exec_filter.proofs.prefilter.stream_filters_of.Goals as goal

pub places-preserved : goal.places-preserved
places-preserved c =
    let more = stream_filters_more c.args.from.now c.args.parts.now c.places.stream_filters.items c.push.new.self.items _ c.places.place c.push.ensures.items
    c.places.invariant.size c.places.invariant.streams c.places.invariant.ranges c.stream_filter_at.ensures.stream c.stream_filter_at.ensures.ranges in
    record { size = more.0; streams = more.1; ranges = more.2 }
