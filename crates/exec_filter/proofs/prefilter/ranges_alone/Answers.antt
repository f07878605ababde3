use Rattle.std.proofs.Common.{◌∙◌, arith}
use Rattle.sem_query.specs.Meaning.{by_column}
use Rattle.sem_laws.proofs.Tests.{and-both}
use Rattle.exec_filter.proofs.prefilter.ranges_alone.Goals as goal

pub columns-preserved : goal.columns-preserved
columns-preserved c = record {
  few = omega (arith, c.put.ensures.few, c.columns.invariant.few);
  so_far = λ values h. c.put.ensures.all (by_column values) ∙ and-both _ _ (c.columns.invariant.so_far values h) (c.if_bounded.ensures (by_column values) (c.interval_alone.ensures values h));
}
