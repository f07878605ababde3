use Rattle.std.proofs.Common.{arith}
use Rattle.io_streams.proofs.Writing.{BrokeOff-stop, BrokeOff-then}
use Rattle.adv_sentences.proofs.Writers.{writes_after, broke_off}
use Rattle.adv_sentences.proofs.Listing.{names_first}
use Rattle.adv_sentences.proofs.lists.+write_names.Goals as goal

pub returns-in_err-write_all-in-len1-up : goal.returns-in_err-write_all-in-len1-up
returns-in_err-write_all-in-len1-up g t c =
    rw (names_first c.args.lead.now c.args.names.now c.first-item.result (omega arith) c.first-item.is) (broke_off _ _ _ _ c.from_residual.ensures.0 (BrokeOff-stop _ _ _ _ c.in_err-write_all-in-len1-up.ensures))

pub returns-in_err-write_all-in-len1-up-2 : goal.returns-in_err-write_all-in-len1-up-2
returns-in_err-write_all-in-len1-up-2 g t c =
    let first = rw (c.bytes.ensures.bytes) at c.in_err-write_all-in-len1-up-2.ensures in
    rw (names_first c.args.lead.now c.args.names.now c.first-item.result (omega arith) c.first-item.is)
    (broke_off _ _ _ _ c.from_residual-in_err-write_all-in-len1-up-2.ensures.0 (BrokeOff-then _ _ _ _ _ c.in_ok-write_all-in-len1-up.ensures (BrokeOff-stop _ _ _ _ first)))

pub returns-in_ok-write_all-in-len1-up-2 : goal.returns-in_ok-write_all-in-len1-up-2
returns-in_ok-write_all-in-len1-up-2 g t c =
    let first = rw (c.bytes.ensures.bytes) at c.in_ok-write_all-in-len1-up-2.ensures in
    rw (names_first c.args.lead.now c.args.names.now c.first-item.result (omega arith) c.first-item.is)
    (writes_after _ _ _ _ _ _ c.in_ok-write_all-in-len1-up.ensures (writes_after _ _ _ _ _ _ first c.write_names.ensures))
