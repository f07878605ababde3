use Rattle.std.proofs.Common.{arith}
use Rattle.adv_mends.proofs.Limits.{columns-longer, columns_step}
use Rattle.adv_mends.proofs.searching.columns_with.Goals as goal

pub columns-preserved : goal.columns-preserved
columns-preserved c = record {
  is = columns_step c.columns.list.items c.add_column.new.columns.items _ c.args.others.now c.columns.column-index _ c.columns-test.true c.add_column.ensures c.columns.invariant.is;
  few = omega (arith, columns-longer c.columns.list.items c.add_column.new.columns.items _ c.add_column.ensures, c.columns.invariant.few);
}
