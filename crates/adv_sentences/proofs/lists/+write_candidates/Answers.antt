use Rattle.std.proofs.Common.{arith}
use Rattle.io_streams.proofs.Writing.{BrokeOff-stop, BrokeOff-then}
use Rattle.adv_hints.specs.declared.candidates.Candidate.TheVariants.{Name}
use Rattle.adv_sentences.proofs.Writers.{writes_after, broke_off}
use Rattle.adv_sentences.proofs.Listing.{candidates_written}
use Rattle.adv_sentences.proofs.lists.+write_candidates.Goals as goal

pub returns-in_err-write_all-in-len1-up : goal.returns-in_err-write_all-in-len1-up
returns-in_err-write_all-in-len1-up g t c =
    candidates_written _ _ _ c.args.lead.now c.args.candidates.now Name (omega arith) (broke_off _ _ _ _ c.from_residual.ensures.0 (BrokeOff-stop _ _ _ _ c.in_err-write_all-in-len1-up.ensures))

pub returns-in_err-write_all-in-len1-up-2 : goal.returns-in_err-write_all-in-len1-up-2
returns-in_err-write_all-in-len1-up-2 g t c =
    let first = rw (c.told_as.ensures) at c.in_err-write_all-in-len1-up-2.ensures in
    candidates_written _ _ _ c.args.lead.now c.args.candidates.now _ (omega arith)
    (broke_off _ _ _ _ c.from_residual-in_err-write_all-in-len1-up-2.ensures.0 (BrokeOff-then _ _ _ _ _ c.in_ok-write_all-in-len1-up.ensures (BrokeOff-stop _ _ _ _ first)))

pub returns-in_ok-write_all-in-len1-up-2 : goal.returns-in_ok-write_all-in-len1-up-2
returns-in_ok-write_all-in-len1-up-2 g t c =
    let first = rw (c.told_as.ensures) at c.in_ok-write_all-in-len1-up-2.ensures in
    candidates_written _ _ _ c.args.lead.now c.args.candidates.now _ (omega arith)
    (writes_after _ _ _ _ _ _ c.in_ok-write_all-in-len1-up.ensures (writes_after _ _ _ _ _ _ first c.write_candidates.ensures))
