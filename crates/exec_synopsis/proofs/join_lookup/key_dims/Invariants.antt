use Rattle.std.proofs.Common.{◌≡◌, map, take}
use Rattle.exec_synopsis.specs.Joining.{key_dim}
use Rattle.exec_synopsis.proofs.join_lookup.key_dims.Given as goal

abbrev pub invariant-keys : goal.invariant-keys
invariant-keys l = l.dims.items ≡ map key_dim (take l.key-index l.keys)
