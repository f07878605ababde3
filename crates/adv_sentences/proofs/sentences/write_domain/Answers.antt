use Rattle.io_streams.proofs.Writing.{BrokeOff-stop}
use Rattle.sql_explain.proofs.Writers.{broke, writes_after}
use Rattle.adv_sentences.proofs.sentences.write_domain.Goals as goal

pub returns-in_err-write_outside : goal.returns-in_err-write_outside
returns-in_err-write_outside g c = broke _ _ _ _ c.from_residual.ensures.0 (BrokeOff-stop _ _ _ _ c.in_err-write_outside.ensures)

pub returns : goal.returns
returns g c =
    let ends = rw (c.domain_of.ensures) at c.write_ends.ensures in
    writes_after _ _ _ _ _ _ c.in_ok-write_outside.ensures ends
