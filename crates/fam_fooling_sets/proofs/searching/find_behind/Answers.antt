use Rattle.std.proofs.Common.{arith}
use Rattle.fam_fooling_sets.specs.Passing.{ArePartedLinks}
use Rattle.fam_fooling_sets.proofs.Found.{none-of}
use Rattle.fam_fooling_sets.proofs.searching.find_behind.Goals as goal

pub returns : goal.returns
returns c = record {
  none = none-of (ArePartedLinks c.args.q.now c.args.p.now.signs.items c.args.attr.stream c.args.first) c.args.links.now c.loop-j.j (let l = c.loop-j-test.false in omega (arith, l)) c.loop-j.invariant;
}
