use Rattle.std.proofs.Common.{◌≡◌}
use Rattle.std.specs.List.{flat_map, range_with_len}
use Rattle.sem_query.specs.Boxes.{box_size}
use Rattle.sem_query.specs.Numbers.{free_dims}
use Rattle.plan_whole_form.specs.Numbers.{capped, part_with, dims_in}
use Rattle.plan_whole_form.proofs.numbers.share_of.Given as goal

abbrev pub invariant-places : goal.invariant-places
invariant-places l = l.size ≡ capped (box_size (flat_map (free_dims (part_with (dims_in l.streams) l.equal) l.arriving) (range_with_len 0 l.place)))
