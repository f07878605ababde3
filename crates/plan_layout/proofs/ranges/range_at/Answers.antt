use Rattle.std.proofs.Common.{◌<◌, length, arith}
use Rattle.plan_layout.proofs.Ranging.{range_room, range_told}
use Rattle.plan_layout.proofs.ranges.range_at.Goals as goal

pub bounds-as_slice-i : goal.bounds-as_slice-i
bounds-as_slice-i c = range_room c.args.q.now c.args.p.now.signs.items c.args.refs.now c.as_slice.result.now c.args.i c.requires.refs c.as_slice.ensures.value c.requires.place

pub returns : goal.returns
returns c = range_told c.args.q.now c.args.p.now.signs.items c.args.refs.now c.as_slice.result.now c.args.i _ c.requires.refs c.as_slice.ensures.value c.requires.place

pub offset_bounds-as_slice-i : goal.offset_bounds-as_slice-i
offset_bounds-as_slice-i c =
    let l : c.args.i < length c.as_slice.result.now = range_room c.args.q.now c.args.p.now.signs.items c.args.refs.now c.as_slice.result.now c.args.i c.requires.refs c.as_slice.ensures.value c.requires.place in
    omega (arith, l)
