use Rattle.std.proofs.Common.{◌≡◌, take}
use Rattle.cert_maker.proofs.node.with_sign.Given as goal

abbrev pub invariant-loop-s : goal.invariant-loop-s
invariant-loop-s l = l.longer.items ≡ take l.s-index l.signs
