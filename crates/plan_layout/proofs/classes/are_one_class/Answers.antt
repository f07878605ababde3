use Rattle.plan_layout.proofs.Naming.{class_room, one_class_told}
use Rattle.plan_layout.proofs.classes.are_one_class.Goals as goal

pub bounds-as_slice-i : goal.bounds-as_slice-i
bounds-as_slice-i c = class_room c.args.q.now c.args.p.now.signs.items c.args.refs.now c.requires.refs c.as_slice.result.now c.args.i c.as_slice.ensures.value c.requires.left

pub bounds-as_slice-j : goal.bounds-as_slice-j
bounds-as_slice-j c = class_room c.args.q.now c.args.p.now.signs.items c.args.refs.now c.requires.refs c.as_slice-2.result.now c.args.j c.as_slice-2.ensures.value c.requires.right

pub returns : goal.returns
returns c = one_class_told c.args.q.now c.args.p.now.signs.items c.args.refs.now c.requires.refs c.as_slice.result.now c.as_slice-2.result.now c.args.i c.args.j c.as_slice.ensures.value c.as_slice-2.ensures.value c.requires.left c.requires.right
