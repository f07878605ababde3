use Rattle.plan_conditions.proofs.Told.{class_room, class_told}
use Rattle.plan_conditions.proofs.bounded.class_of.Goals as goal

pub bounds-as_slice-i : goal.bounds-as_slice-i
bounds-as_slice-i c = class_room c.args.q.now c.args.p.now.signs.items c.args.refs.now c.attrs.result.now c.as_slice.result.now c.in-Some.i c.requires.refs c.attrs.ensures.value c.as_slice.ensures.value c.in-Some.ensures.0

pub returns-in-Some : goal.returns-in-Some
returns-in-Some c = class_told c.args.q.now c.args.p.now.signs.items c.args.refs.now c.attrs.result.now c.as_slice.result.now c.in-Some.i _ c.args.attr c.requires.refs c.attrs.ensures.value c.as_slice.ensures.value c.in-Some.ensures.0 c.in-Some.ensures.1
