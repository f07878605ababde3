use Rattle.std.proofs.Common.{arith}
use Rattle.std.proofs.Math.ListN.{length-set}
use Rattle.plan_whole_form.proofs.Conditioned.{columns_first, columns_more}
use Rattle.plan_whole_form.proofs.conditions.columns_at.Goals as goal

pub loop-column-init : goal.loop-column-init
loop-column-init c = record { within = omega arith; long = omega arith; known = λ k l. columns_first c.args.closed.now c.args.place k l }

pub loop-column-preserved : goal.loop-column-preserved
loop-column-preserved c = record {
  within = (let l = c.loop-column-test.true in omega (arith, l));
  long = omega (arith, length-set c.loop-column.columns c.from.result c.known_column.result, c.loop-column.invariant.long);
  known = λ k l. columns_more c.args.closed.now c.args.place c.loop-column.columns c.loop-column.column c.from.result c.known_column.result c.from.ensures (let l = c.loop-column-test.true in let n = c.loop-column.invariant.long in omega (arith, l, n)) c.loop-column.invariant.known c.known_column.ensures k (omega (arith, l));
}

pub returns : goal.returns
returns c = λ k l. c.loop-column.invariant.known k (let m = c.loop-column-test.false in omega (arith, l, m))
