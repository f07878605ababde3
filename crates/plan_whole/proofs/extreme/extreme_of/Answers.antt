use Rattle.std.proofs.Common.{◌≡◌, map, subst, arith}
use Rattle.plan_whole.specs.Columns.{atom_of}
use Rattle.plan_whole.specs.Extremes.{IsBest}
use Rattle.plan_whole.proofs.Choosing.{best_first, best_more}
use Rattle.plan_whole.proofs.extreme.extreme_of.Goals as goal

pub loop-column-init : goal.loop-column-init
loop-column-init c = record { within = omega arith; best = best_first c.args.closed.now (map atom_of c.args.links.now) c.args.place }

pub loop-column-preserved : goal.loop-column-preserved
loop-column-preserved c = record {
  within = (let l = c.loop-column-test.true in omega (arith, l));
  best = best_more c.args.closed.now (map atom_of c.args.links.now) c.args.place c.loop-column.column c.loop-column.best c.candidate.result c.better-best.result c.loop-column.invariant.best c.candidate.ensures c.better-best.ensures;
}

pub returns : goal.returns
returns c =
    let l = c.loop-column-test.false in
    let m = c.loop-column.invariant.within in
    let e : c.loop-column.column ≡ 8 = omega (arith, l, m) in
    subst (λ n. IsBest c.args.closed.now (map atom_of c.args.links.now) c.args.place n c.loop-column.best) e c.loop-column.invariant.best
