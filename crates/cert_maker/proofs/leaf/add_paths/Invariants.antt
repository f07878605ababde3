use Rattle.std.proofs.Common.{◌+◌, ◌*◌}
use Rattle.cert_maker.specs.Leaf.{AddedTo}
use Rattle.cert_maker.proofs.leaf.add_paths.Given as goal

abbrev pub invariant-loop-from : goal.invariant-loop-from
invariant-loop-from l = AddedTo l.attrs l.bounds.constraints (13 * l.from) l.fn.certificate l.certificate

abbrev pub invariant-loop-to : goal.invariant-loop-to
invariant-loop-to l = AddedTo l.attrs l.bounds.constraints (13 * l.from + l.to) l.fn.certificate l.certificate
