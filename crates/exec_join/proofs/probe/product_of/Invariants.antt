use Rattle.std.proofs.Common.{◌≡◌, take}
use Rattle.exec_join.specs.Choosing.{product_of}
use Rattle.exec_join.proofs.probe.product_of.Given as goal

abbrev pub invariant-choices : goal.invariant-choices
invariant-choices l = l.product ≡ product_of (take l.c-index l.chosen)
