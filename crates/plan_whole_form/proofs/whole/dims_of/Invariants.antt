use Rattle.std.proofs.Common.{◌≡◌, map, take}
use Rattle.plan_whole_form.specs.Streams.{dim_of}
use Rattle.plan_whole_form.proofs.whole.dims_of.Given as goal

abbrev pub invariant-loop-class : goal.invariant-loop-class
invariant-loop-class l = l.list.items ≡ map dim_of (take l.class-index l.classes)
