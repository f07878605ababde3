use Rattle.std.proofs.Common.{◌≡◌, take, filter, not}
use Rattle.sem_query.specs.Boxes.{box_size}
use Rattle.sem_query.specs.Numbers.{is_fixed}
use Rattle.plan_layout.specs.Capped.{capped}
use Rattle.plan_layout.proofs.shares.free_size.Given as goal

abbrev pub invariant-dims : goal.invariant-dims
invariant-dims l = l.size ≡ capped (box_size (filter (λ d. not (is_fixed l.part l.arriving l.place d)) (take l.i l.dims)))
