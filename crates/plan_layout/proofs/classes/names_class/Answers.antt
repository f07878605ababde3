use Rattle.plan_layout.proofs.Naming.{class_room, name_told}
use Rattle.plan_layout.proofs.classes.names_class.Goals as goal

pub bounds-as_slice-i : goal.bounds-as_slice-i
bounds-as_slice-i c = class_room c.args.q.now c.args.p.now.signs.items c.args.refs.now c.requires.refs c.as_slice.result.now c.args.i c.as_slice.ensures.value c.requires.place

pub returns : goal.returns
returns c = name_told c.args.q.now c.args.p.now.signs.items c.args.refs.now c.requires.refs c.as_slice.result.now c.args.i c.from.result c.as_slice.ensures.value c.requires.place c.from.ensures
