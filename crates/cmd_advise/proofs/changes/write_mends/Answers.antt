use Rattle.io_streams.proofs.Writing.{BrokeOff-then, BrokeOff-stop}
use Rattle.cmd_advise.proofs.Texts.{broke_off}
use Rattle.cmd_advise.proofs.changes.write_mends.Goals as goal

pub returns-in_err-write_compared : goal.returns-in_err-write_compared
returns-in_err-write_compared g c =
    let lead = rw (c.leaves_out.ensures) at c.in_ok-write_if.ensures in
    broke_off _ _ _ _ c.from_residual-in_err-write_compared.ensures.0
    (BrokeOff-then _ _ _ _ _ c.in_ok-write_same.ensures (BrokeOff-then _ _ _ _ _ lead (BrokeOff-then _ _ _ _ _ c.in_ok-write_all_sets.ensures (BrokeOff-stop _ _ _ _ c.in_err-write_compared.ensures))))

pub returns-in_err-write_if-2 : goal.returns-in_err-write_if-2
returns-in_err-write_if-2 g c =
    let lead = rw (c.leaves_out.ensures) at c.in_ok-write_if.ensures in
    let nothing = rw (c.has_mend.ensures) at c.in_err-write_if-2.ensures in
    broke_off _ _ _ _ c.from_residual-in_err-write_if-2.ensures.0
    (BrokeOff-then _ _ _ _ _ c.in_ok-write_same.ensures (BrokeOff-then _ _ _ _ _ lead (BrokeOff-then _ _ _ _ _ c.in_ok-write_all_sets.ensures
    (BrokeOff-then _ _ _ _ _ c.in_ok-write_compared.ensures (BrokeOff-stop _ _ _ _ nothing)))))
