use Rattle.std.proofs.Common.{◌≡◌, take, filter, not}
use Rattle.sem_query.specs.Boxes.{box_size}
use Rattle.sem_query.specs.Numbers.{is_fixed}
use Rattle.plan_whole_form.specs.Numbers.{capped, part_with, dims_in}
use Rattle.plan_whole_form.proofs.numbers.free_size.Given as goal

abbrev pub invariant-dims : goal.invariant-dims
invariant-dims l = l.size ≡ capped (box_size (filter (λ d. not (is_fixed (part_with (dims_in l.streams) l.equal) l.arriving l.place d)) (take l.i l.dims)))
