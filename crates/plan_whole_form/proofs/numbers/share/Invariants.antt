use Rattle.std.proofs.Common.{◌≡◌, map}
use Rattle.std.specs.List.{range_with_len}
use Rattle.sem_query.specs.Numbers.{share_of, greatest_of}
use Rattle.plan_whole_form.specs.Numbers.{capped, part_with, dims_in}
use Rattle.plan_whole_form.proofs.numbers.share.Given as goal

abbrev pub invariant-streams : goal.invariant-streams
invariant-streams l = l.greatest ≡ capped (greatest_of (map (share_of (part_with (dims_in l.streams) l.equal)) (range_with_len 0 l.arriving)))
