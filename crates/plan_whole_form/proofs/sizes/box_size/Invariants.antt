use Rattle.std.proofs.Common.{◌≡◌, take}
use Rattle.sem_query.specs.Boxes.{box_size}
use Rattle.plan_whole_form.specs.Numbers.{capped}
use Rattle.plan_whole_form.proofs.sizes.box_size.Given as goal

abbrev pub invariant-sizes : goal.invariant-sizes
invariant-sizes l = l.size ≡ capped (box_size (take l.dim-index l.dims))
