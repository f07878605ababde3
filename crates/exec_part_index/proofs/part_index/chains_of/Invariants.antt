use Rattle.std.proofs.Common.{◌≤◌, length}
use Rattle.exec_part_index.specs.PartIndex.{AreLinked}
use Rattle.exec_part_index.proofs.Linked.{masked}
use Rattle.exec_part_index.proofs.part_index.chains_of.Given as goal

abbrev pub invariant-parts : goal.invariant-parts
invariant-parts l = record {
  within : l.i ≤ length l.codes;
  joined : AreLinked (masked l.codes l.mask) l.mask l.i l.heads.items l.links.items;
}

abbrev pub decreases-parts : goal.decreases-parts
decreases-parts l = l.i
