use Rattle.std.proofs.Common.{map, arith}
use Rattle.plan_whole.specs.Columns.{atom_of}
use Rattle.plan_whole_form.proofs.Opening.{no_earlier_first, no_earlier_more, has_one, has_none}
use Rattle.plan_whole_form.proofs.sides.has_earlier.Goals as goal

pub loop-column-init : goal.loop-column-init
loop-column-init c = record { within = omega arith; none = no_earlier_first c.args.closed.now (map atom_of c.args.links.now) c.args.a }

pub returns-then-is_earlier : goal.returns-then-is_earlier
returns-then-is_earlier c = has_one c.args.closed.now (map atom_of c.args.links.now) c.args.a c.loop-column.column c.is_earlier.result c.loop-column-test.true c.is_earlier.ensures c.if-is_earlier.true

pub loop-column-preserved : goal.loop-column-preserved
loop-column-preserved c = record {
  within = (let l = c.loop-column-test.true in omega (arith, l));
  none = no_earlier_more c.args.closed.now (map atom_of c.args.links.now) c.args.a c.loop-column.column c.is_earlier.result c.loop-column.invariant.none c.is_earlier.ensures c.if-is_earlier.false;
}

pub returns : goal.returns
returns c = has_none c.args.closed.now (map atom_of c.args.links.now) c.args.a c.loop-column.column (let l = c.loop-column-test.false in let m = c.loop-column.invariant.within in omega (arith, l, m)) c.loop-column.invariant.none
