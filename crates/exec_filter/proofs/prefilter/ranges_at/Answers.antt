use Rattle.std.proofs.Common.{◌∙◌, arith}
use Rattle.sem_laws.proofs.Tests.{and-both}
use Rattle.exec_filter.proofs.prefilter.ranges_at.Goals as goal

pub columns-preserved : goal.columns-preserved
columns-preserved c = record {
  few = omega (arith, c.put.ensures.few, c.columns.invariant.few);
  so_far = λ n d l v h. c.put.ensures.all v ∙ and-both _ _ (c.columns.invariant.so_far n d l v h) (c.range_at.ensures n d l v h);
}
