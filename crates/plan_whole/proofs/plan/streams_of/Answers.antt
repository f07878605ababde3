use Rattle.std.proofs.Common.{◌≡◌, ◌∙◌, length, map, ap, sym, subst, arith}
use Rattle.plan_whole.specs.Columns.{atom_of}
use Rattle.plan_whole.proofs.Streaming.{ArePlannedTo, planned_first, planned_more, planned_all}
use Rattle.plan_whole.proofs.plan.streams_of.Goals as goal

pub loop-place-init : goal.loop-place-init
loop-place-init c = record {
  within = omega arith;
  planned = subst (ArePlannedTo c.args.closed.now (map atom_of c.args.links.now) 0) (sym c.new-streams.ensures) (planned_first c.args.closed.now (map atom_of c.args.links.now));
}

pub loop-place-preserved : goal.loop-place-preserved
loop-place-preserved c = record {
  within = (let l = c.loop-place-test.true in let f = ap length (c.from-from.ensures.value ∙ c.query.ensures.from) in omega (arith, l, f));
  planned = planned_more c.args.closed.now (map atom_of c.args.links.now) c.loop-place.place _ c.loop-place.streams.items _ c.stream_of.result (omega arith) c.stream_of.ensures c.push.ensures.items c.loop-place.invariant.planned;
}

pub returns : goal.returns
returns c =
    let l = c.loop-place-test.false in
    let m = c.loop-place.invariant.within in
    let f = ap length (c.from-from.ensures.value ∙ c.query.ensures.from) in
    let e : c.loop-place.place ≡ length c.args.closed.now.from = omega (arith, l, m, f) in
    planned_all c.args.closed.now (map atom_of c.args.links.now) c.loop-place.place c.loop-place.streams.items e c.loop-place.invariant.planned
