use Rattle.std.proofs.Common.{◌≡◌, map}
use Rattle.std.specs.List.{range_with_len}
use Rattle.sem_query.specs.Numbers.{share_of, greatest_of}
use Rattle.plan_layout.specs.Capped.{capped}
use Rattle.plan_layout.proofs.shares.share.Given as goal

abbrev pub invariant-streams : goal.invariant-streams
invariant-streams l = l.greatest ≡ capped (greatest_of (map (share_of l.part) (range_with_len 0 l.arriving)))
