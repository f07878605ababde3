use Rattle.std.proofs.Common.{arith}
use Rattle.adv_mends.proofs.Limits.{domains-longer, domains_step}
use Rattle.adv_key_ranges.proofs.narrowing.domains_with.Goals as goal

pub columns-preserved : goal.columns-preserved
columns-preserved c = record {
  is = domains_step c.args.ends c.columns.list.items c.put.new.domains.items _ c.args.columns.now c.columns.column-index _ c.columns-test.true c.put.ensures c.columns.invariant.is;
  few = omega (arith, domains-longer c.columns.list.items c.put.new.domains.items _ c.put.ensures, c.columns.invariant.few);
}
