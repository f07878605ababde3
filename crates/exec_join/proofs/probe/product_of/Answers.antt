use Rattle.std.proofs.Common.{◌+◌, arith}
use Rattle.exec_join.proofs.StepLaws.{product-next}
use Rattle.exec_join.proofs.probe.product_of.Goals as goal

pub overflow_mul-product : goal.overflow_mul-product
overflow_mul-product c =
    let h = product-next c.args.chosen.now c.choices.c-index c.c-item.result c.choices.product c.rows_in.result c.from-product.result c.choices-test.true c.choices.invariant c.c-item.is c.rows_in.ensures c.from-product.ensures in
    omega (arith, h, c.requires (c.choices.c-index + 1))

pub choices-preserved : goal.choices-preserved
choices-preserved c = product-next c.args.chosen.now c.choices.c-index c.c-item.result c.choices.product c.rows_in.result c.from-product.result c.choices-test.true c.choices.invariant c.c-item.is c.rows_in.ensures c.from-product.ensures
