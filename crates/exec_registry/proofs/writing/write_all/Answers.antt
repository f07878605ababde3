use Rattle.std.proofs.Common.{ℕ, List, refl, rules, subst, slice_index_or}
use Rattle.exec_answer_lines.specs.Gathering.{Gathers}
use Rattle.exec_registry.specs.Registry.{waiting_text}
use Rattle.exec_registry.proofs.BitsLeft.{IsOnlyBit}
use Rattle.exec_registry.specs.Live.{Live}
use Rattle.exec_registry.proofs.Ended.{only_left}
use Rattle.exec_registry.proofs.Only.{only_text, only_wrote}
use Rattle.exec_registry.proofs.writing.write_all.Given.{Over}
use Rattle.exec_registry.proofs.writing.write_all.Goals.{After-put_at}
use Rattle.exec_registry.proofs.writing.write_all.Goals as goal

-- the word has one bit
only : (g : Over) (c : After-put_at g) → IsOnlyBit c.args.word c.lowest_bit-place.result
only g c =
    only_left c.args.word c.without_bit.result c.lowest_bit-place.result (search rules) c.lowest_bit-place.ensures.few c.lowest_bit-place.ensures.own c.lowest_bit-place.ensures.below
    c.without_bit.ensures.own c.without_bit.ensures.others c.if-without_bit-ne0.false

pub returns-clause-written : goal.returns-clause-written
returns-clause-written g c =
    let d : Live = c.put_at.ensures.wrote.live in
    only_text _ _ c.args.live.now c.requires (only g c) c.put_at.result d _ _ c.put_at.new.lines (c.put_at.ensures.written refl) (subst (λ (held : List ℕ). Gathers c.put_at.result (g.O.Sink.seen c.args.out.now) (g.O.Sink.seen c.put_at.new.out) held c.put_at.new.lines (waiting_text (slice_index_or c.args.live.now c.lowest_bit-place.result d))) c.clear.ensures (c.put_at.ensures.gathered d))

pub returns-clause-wrote : goal.returns-clause-wrote
returns-clause-wrote g c = only_wrote _ _ c.args.live.now c.requires (only g c) c.put_at.new.live c.put_at.ensures.wrote
