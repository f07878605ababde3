use Rattle.std.proofs.Common.{arith, ◌+◌, ◌*◌}
use Rattle.cert_maker.proofs.PathSteps.{added_none, added_on, added_more}
use Rattle.cert_maker.proofs.leaf.add_paths.Goals as goal
use Rattle.cert_maker.proofs.leaf.add_paths.Goals.{then-from-to+in_ok-add_path, else-from-to}

pub loop-from-init : goal.loop-from-init
loop-from-init c = added_none _ _ _ c.requires.takes

pub loop-to-preserved : goal.loop-to-preserved
loop-to-preserved c =
    elim c.if-from-to.branch [
      | then-from-to+in_ok-add_path w ↦ rw w.certificate-is (added_more _ _ c.loop-from.from c.loop-to.to _ _ _ _ (omega arith) c.requires.few_attrs (omega arith) (omega arith) w.if-from-to.true c.loop-to.invariant w.in_ok-add_path.ensures)
      | else-from-to w ↦ rw w.certificate-is (added_on c.args.attrs c.args.bounds.now.constraints (13 * c.loop-from.from + c.loop-to.to) (13 * c.loop-from.from + (c.loop-to.to + 1)) c.args.certificate.now c.loop-to.certificate (omega arith) (λ i j l r d h. omega arith) c.loop-to.invariant)
    ]

pub loop-from-preserved : goal.loop-from-preserved
loop-from-preserved c = added_on c.args.attrs c.args.bounds.now.constraints (13 * c.loop-from.from + c.loop-to.to) (13 * (c.loop-from.from + 1)) c.args.certificate.now c.loop-to.certificate (omega arith) (λ i j l r d h. omega arith) c.loop-to.invariant

pub returns : goal.returns
returns c = added_on c.args.attrs c.args.bounds.now.constraints (13 * c.loop-from.from) 169 c.args.certificate.now c.loop-from.certificate (omega arith) (λ i j l r d h. omega arith) c.loop-from.invariant
