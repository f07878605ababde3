use Rattle.std.proofs.Common.{refl}
use Rattle.cmd_feeds.proofs.Rows.{map-set, any-at, map-any}
use Rattle.cmd_feeds.proofs.Visits.{feed-turned}
use Rattle.cmd_feeds.specs.Visited.{new_lane, no_source}
use Rattle.cmd_feeds.proofs.taking.turn_at.Goals as goal

pub returns-clause-turned : goal.returns-clause-turned
returns-clause-turned g c = λ s stands. feed-turned _ _ s _ _ _ _ _ _ _ _ _ _ _ _ _ _ _
    (any-at c.args.lanes.now c.args.place new_lane c.index-lanes-place.result c.requires.lane)
    (map-any g.I.Source.seen c.args.feeds.now c.args.place no_source c.index-feeds-place.result c.requires.feed)
    refl
    (map-set g.I.Source.seen c.args.feeds.now c.args.place c.turn_lane.new.feed)
    (c.turn_lane.ensures.turned s stands)
