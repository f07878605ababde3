use Rattle.std.proofs.Common.{◌≡◌, drop}
use Rattle.std.specs.List.{flat_map}
use Rattle.plan_layout.specs.Codes.{code_after, dim_numbers}
use Rattle.plan_layout.proofs.codes.with_dims.Given as goal

abbrev pub invariant-dims : goal.invariant-dims
invariant-dims l = code_after l.code (flat_map dim_numbers (drop l.dim-index l.dims)) ≡ code_after l.fn.code (flat_map dim_numbers l.dims)
