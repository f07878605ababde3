use Rattle.std.proofs.Common.{arith}
use Rattle.fam_fooling_sets.specs.Passing.{NoneIsParted}
use Rattle.fam_fooling_sets.proofs.Found.{each-more, each-of}
use Rattle.fam_fooling_sets.proofs.searching.find_cut.Goals as goal

pub loop-i-preserved : goal.loop-i-preserved
loop-i-preserved c =
    each-more (NoneIsParted c.args.q.now c.args.p.now.signs.items c.args.links.now c.args.attr.stream) c.args.links.now c.loop-i.i _ c.loop-i-test.true c.loop-i.invariant c.in-None.ensures

pub returns : goal.returns
returns c = each-of (NoneIsParted c.args.q.now c.args.p.now.signs.items c.args.links.now c.args.attr.stream) c.args.links.now c.loop-i.i (let l = c.loop-i-test.false in omega (arith, l)) c.loop-i.invariant
