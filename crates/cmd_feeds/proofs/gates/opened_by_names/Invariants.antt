use Rattle.std.proofs.Common.{◌≡◌, Some, filter}
use Rattle.std.specs.List.{range_with_len}
use Rattle.cmd_feeds.specs.Gates.{is_named}
use Rattle.cmd_feeds.specs.FeedWord.{pieces}
use Rattle.cmd_feeds.proofs.gates.opened_by_names.Given as goal

abbrev pub invariant-loop-number : goal.invariant-loop-number
invariant-loop-number l = l.opened ≡ Some (filter (is_named l.fn.session.streams (pieces l.fn.text)) (range_with_len 0 l.number))
