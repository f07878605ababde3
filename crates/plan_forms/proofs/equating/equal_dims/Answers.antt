use Rattle.std.proofs.Common.{sym, subst, arith}
use Rattle.plan_forms.specs.Equated.{AreBefore}
use Rattle.plan_forms.proofs.Equalities.{before_none, before_behind, before_all, before_ascend}
use Rattle.plan_forms.proofs.equating.equal_dims.Goals as goal

pub streams-init : goal.streams-init
streams-init c = subst (AreBefore c.args.closed.now c.args.streams.now 0) (sym c.new-list.ensures) (before_none c.args.closed.now c.args.streams.now c.requires.classes)

pub add_stream-requires-clause-behind : goal.add_stream-requires-clause-behind
add_stream-requires-clause-behind c = before_behind c.args.closed.now c.args.streams.now c.requires.classes c.streams.place c.streams.list.items c.streams.invariant

pub returns-clause-equal : goal.returns-clause-equal
returns-clause-equal c = before_all c.args.closed.now c.args.streams.now c.requires.classes c.streams.place c.streams.list.items (let l = c.streams-test.false in omega (arith, l)) c.streams.invariant

pub returns-clause-ascending : goal.returns-clause-ascending
returns-clause-ascending c = before_ascend c.args.closed.now c.args.streams.now c.requires.classes c.streams.place c.streams.list.items c.streams.invariant
