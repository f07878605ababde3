use Rattle.std.proofs.Common.{ap, ◌∙◌, refl, arith}
use Rattle.plan_layout.proofs.Dimming.{named_next, unnamed_next, room_next, dims_end, dims_start}
use Rattle.plan_layout.proofs.dims.dims.Goals as goal
use Rattle.plan_layout.proofs.dims.dims.Goals.{in-Some, in-None}

pub loop-i-init : goal.loop-i-init
loop-i-init c = dims_start c.args.q.now c.args.p.now.signs.items c.args.place c.new-list.result.items c.new-list.ensures

pub push-requires : goal.push-requires
push-requires c = (omega arith, room_next c.args.q.now c.args.p.now.signs.items c.args.place c.loop-i.list.items c.loop-i.i c.loop-i-test.true c.loop-i.invariant)

pub loop-i-preserved : goal.loop-i-preserved
loop-i-preserved c = elim c.match-dim_named.branch [
  | in-Some w ↦ named_next c.args.q.now c.args.p.now.signs.items c.args.place c.loop-i.list.items c.match-dim_named.list.items c.loop-i.i _ w.in-Some.dim refl refl w.in-Some.ensures c.loop-i.invariant (ap (λ v. v.items) w.list-is ∙ w.push.ensures.items)
  | in-None w ↦ unnamed_next c.args.q.now c.args.p.now.signs.items c.args.place c.loop-i.list.items c.match-dim_named.list.items c.loop-i.i _ refl refl w.in-None.ensures c.loop-i.invariant (ap (λ v. v.items) w.list-is)
]

pub returns : goal.returns
returns c = dims_end c.args.q.now c.args.p.now.signs.items c.args.place c.args.refs.now c.requires.refs c.requires.limits c.requires.part c.loop-i.list.items c.loop-i.i (omega (arith, c.loop-i-test.false)) c.loop-i.invariant
