use Rattle.std.proofs.Common.{◌≡◌, replicate}
use Rattle.cmd_feeds.specs.Visited.{new_lane}
use Rattle.cmd_feeds.proofs.stage.open_lanes.Given as goal

abbrev pub invariant-loop : goal.invariant-loop
invariant-loop l = l.lanes.items ≡ replicate l.counter new_lane
