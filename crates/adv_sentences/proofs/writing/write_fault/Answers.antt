use Rattle.io_streams.proofs.Writing.{BrokeOff-then, BrokeOff-stop}
use Rattle.adv_sentences.proofs.Writers.{broke_off}
use Rattle.adv_sentences.proofs.writing.write_fault.Goals as goal

pub returns-in_err-write_sentence : goal.returns-in_err-write_sentence
returns-in_err-write_sentence g c =
    let head = rw (c.word_of.ensures) at c.in_ok-write_head.ensures in
    let shown = rw (c.classify.ensures.stripped) at c.in_ok-write_shown.ensures in
    let place = rw (c.place_of.ensures, c.classify.ensures.stripped) at c.in_ok-write_place.ensures in
    let broke = rw (c.classify.ensures.stripped) at c.in_err-write_sentence.ensures in
    broke_off _ _ _ _ c.from_residual-in_err-write_sentence.ensures.0 (BrokeOff-then _ _ _ _ _ head (BrokeOff-then _ _ _ _ _ shown (BrokeOff-then _ _ _ _ _ place (BrokeOff-stop _ _ _ _ broke))))
