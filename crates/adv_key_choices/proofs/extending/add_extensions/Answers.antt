use Rattle.std.proofs.Common.{arith}
use Rattle.adv_key_choices.proofs.Extended.{adds-same, each-none, each-more, each-all, extensions}
use Rattle.adv_key_choices.proofs.extending.add_extensions.Goals as goal

pub loop-column-init : goal.loop-column-init
loop-column-init c = (omega arith, each-none c.args.queries.now c.args.choice c.args.stream _)

pub loop-column-preserved : goal.loop-column-preserved
loop-column-preserved c = (
  omega (arith, c.loop-column-test.true),
  each-more c.args.queries.now c.args.choice c.args.stream c.loop-column.column _ _ _ c.loop-column.invariant.1
      (adds-same c.args.queries.now _ _ _ _ c.with_key.ensures c.in_ok-add_exact.ensures),
)

pub returns : goal.returns
returns c =
    extensions c.args.queries.now c.args.choice c.args.stream c.args.width _ _ _
    (each-all c.args.queries.now c.args.choice c.args.stream c.loop-column.column c.args.width _ _ c.loop-column.invariant.0 c.loop-column-test.false c.loop-column.invariant.1)
    (adds-same c.args.queries.now _ _ _ _ c.with_key-2.ensures c.in_ok-add_exact-2.ensures)
