use Rattle.std.proofs.Common.{◌≡◌, take}
use Rattle.exec_ranges.proofs.lists.Dims.copy_from.Given as goal

abbrev pub invariant-dims : goal.invariant-dims
invariant-dims l = l.self.items ≡ take l.dim-index l.dims
