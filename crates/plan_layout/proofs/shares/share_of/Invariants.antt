use Rattle.std.proofs.Common.{◌≡◌}
use Rattle.std.specs.List.{flat_map, range_with_len}
use Rattle.sem_query.specs.Boxes.{box_size}
use Rattle.sem_query.specs.Numbers.{free_dims}
use Rattle.plan_layout.specs.Capped.{capped}
use Rattle.plan_layout.proofs.shares.share_of.Given as goal

abbrev pub invariant-places : goal.invariant-places
invariant-places l = l.size ≡ capped (box_size (flat_map (free_dims l.part l.arriving) (range_with_len 0 l.place)))
