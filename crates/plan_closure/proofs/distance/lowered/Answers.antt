use Rattle.std.proofs.Common.{◌≡◌, ◌∷◌, [], length-append, arith, to_z, of_z, w64}
use Rattle.std.proofs.lemmas.Int.{ints}
use Rattle.plan_closure.specs.Shortest.{between}
use Rattle.plan_closure.proofs.Lowering.{columns_more, within_more, columns_same}
use Rattle.plan_closure.proofs.distance.lowered.Goals as goal
use Rattle.plan_closure.proofs.distance.lowered.Goals.{then-is_lowered, else-is_lowered}

pub loop-j-preserved : goal.loop-j-preserved
loop-j-preserved c = elim c.if-is_lowered.branch [
  | then-is_lowered w ↦ rw (w.columns-is, w.push.ensures.items) record {
    few = omega (arith, c.loop-j.invariant.few, length-append c.loop-j.columns.items (c.loop-j.j ∷ []));
    within = within_more c.loop-j.columns.items c.args.nodes c.loop-j.j c.loop-j-test.true c.loop-j.invariant.within;
    others = columns_more (between c.args.table.now) c.args.left c.args.right _ c.loop-j.columns.items c.loop-j.j c.loop-j.invariant.others;
  }
  | else-is_lowered w ↦ rw w.columns-is record {
    few = omega (arith, c.loop-j.invariant.few);
    within = c.loop-j.invariant.within;
    others = columns_same (between c.args.table.now) c.args.left c.args.right _ c.loop-j.columns.items c.loop-j.j c.loop-j.invariant.others (c.is_lowered.ensures w.if-is_lowered.false);
  }
]

pub returns-clause-others : goal.returns-clause-others
returns-clause-others c = λ j lj.
    let e : to_z w64 (of_z w64 c.args.bound) ≡ c.args.bound = omega (arith, ints, c.requires.low, c.requires.high) in
    rw e at (c.loop-j.invariant.others j (omega (arith, lj, c.loop-j-test.false)))
