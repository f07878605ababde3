use Rattle.std.proofs.Common.{◌≡◌, take}
use Rattle.std.specs.List.{sum_by}
use Rattle.sem_query.specs.Boxes.{box_size}
use Rattle.plan_whole_form.specs.Numbers.{capped, dims_in}
use Rattle.plan_whole_form.proofs.numbers.sizes.Given as goal

abbrev pub invariant-sizes : goal.invariant-sizes
invariant-sizes l = l.size ≡ capped (sum_by box_size (take l.i (dims_in l.streams)))
