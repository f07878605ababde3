use Rattle.std.proofs.Common.{◌≡◌, length, arith}
use Rattle.adv_key_choices.proofs.Extended.{adds-same, up-to-same}
use Rattle.adv_key_choices.proofs.Started.{started}
use Rattle.adv_key_choices.proofs.extending.exact_choices.Goals as goal

pub loop-stream-init : goal.loop-stream-init
loop-stream-init c = (
  omega arith,
  started c.args.queries.now c.args.widths.now _
      (rw c.new-list.ensures.items at (adds-same c.args.queries.now _ _ _ _ c.broadcast_all.ensures c.in_ok-add_exact.ensures)),
)

pub loop-stream-preserved : goal.loop-stream-preserved
loop-stream-preserved c = (omega (arith, c.loop-stream-test.true), c.in_ok-list.ensures)

pub returns : goal.returns
returns c =
    let e : c.loop-stream.stream ≡ length c.args.widths.now = omega (arith, c.loop-stream.invariant.0, c.loop-stream-test.false) in
    up-to-same c.args.queries.now c.args.widths.now _ _ _ e c.loop-stream.invariant.1
