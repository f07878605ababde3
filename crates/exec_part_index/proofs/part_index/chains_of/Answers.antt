use Rattle.std.proofs.Common.{◌-◌, arith, bit_and, get_or, refl}
use Rattle.std.proofs.lemmas.Nat.{and_le_r}
use Rattle.exec_part_index.proofs.Linked.{joined_part}
use Rattle.exec_part_index.proofs.part_index.chains_of.Goals as goal

pub parts-preserved : goal.parts-preserved
parts-preserved c = record {
  within = omega arith;
  joined =
      joined_part c.args.codes.now c.args.mask c.parts.i (bit_and (get_or c.args.codes.now (c.parts.i - 1) 0) c.args.mask) c.index.result.now c.parts.heads.items c.parts.links.items
      (omega arith) c.parts.invariant.within refl (and_le_r (get_or c.args.codes.now (c.parts.i - 1) 0) c.args.mask) c.index.ensures c.parts.invariant.joined;
}
