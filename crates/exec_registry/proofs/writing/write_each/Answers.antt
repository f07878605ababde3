use Rattle.std.proofs.Common.{◌≡◌, ℕ, suc, ◌+◌, ◌<◌, List, [], sym, length, take, subst, arith, rules}
use Rattle.std.specs.List.{flat_map}
use Rattle.exec_answer_lines.specs.Gathering.{Gathered}
use Rattle.exec_answer_lines.proofs.Gathering.{gathered_none}
use Rattle.exec_registry.specs.Live.{Live}
use Rattle.exec_registry.specs.Registry.{waiting_text}
use Rattle.exec_registry.specs.Written.{WroteFirst, GathersNext, GatheredSo}
use Rattle.exec_registry.proofs.BitsLeft.{left_all, left_next, left_between, left_more, none_after}
use Rattle.exec_registry.proofs.Quiet.{wrote_skip, wrote_rest, text_skip, text_all}
use Rattle.exec_registry.proofs.InWriting.{wrote_none, wrote_more, gathered_next, gathered_all, gathered_fault}
use Rattle.exec_registry.proofs.writing.write_each.Goals as goal

pub bits-init : goal.bits-init
bits-init g c = record {
  left = left_all c.args.word;
  few = omega arith;
  wrote = wrote_none c.args.live.now;
  gathered = subst (λ (t : List ℕ). Gathered (g.O.Sink.seen c.args.out.now) (g.O.Sink.seen c.args.out.now) [] t []) (sym c.requires.none) (gathered_none (g.O.Sink.seen c.args.out.now));
}

pub put_at-gathered-requires-clause-there : goal.put_at-gathered-requires-clause-there
put_at-gathered-requires-clause-there g c =
    let next = left_next c.args.word c.bits.left c.bits.next c.lowest_bit-place.result c.bits.invariant.left c.lowest_bit-place.ensures.few c.lowest_bit-place.ensures.own in
    let within = c.requires.quiet.only c.lowest_bit-place.result next.1 in
    let size = c.bits.invariant.wrote.size in
    omega (arith, within, size)

pub bits-preserved : goal.bits-preserved
bits-preserved g c =
    let before : List Live = c.args.live.now in
    let place : ℕ = c.lowest_bit-place.result in
    let few = c.lowest_bit-place.ensures.few in
    let next = left_next c.args.word c.bits.left c.bits.next place c.bits.invariant.left few c.lowest_bit-place.ensures.own in
    let within : place < length before = c.requires.quiet.only place next.1 in
    let between = left_between c.args.word c.bits.left c.bits.next place c.bits.invariant.left few c.lowest_bit-place.ensures.below in
    let at = wrote_skip c.bits.next place before c.bits.live c.bits.invariant.wrote (λ i l a b d. c.requires.quiet.quiet i l d (between i a b)) next.0 in
    let same_text = text_skip c.bits.next place before next.0 (λ i l a b d. c.requires.quiet.quiet i l d (between i a b)) in
    let so = subst (λ t. GatheredSo c.bits.gathered (g.O.Sink.seen c.args.out.now) (g.O.Sink.seen c.bits.out) c.bits.lines t (flat_map waiting_text before)) (sym same_text) c.bits.invariant.gathered in
    let w = c.put_at-gathered.ensures.wrote in
    let d : Live = w.live in
    let one : suc place ≡ place + 1 = omega arith in
    let same = at.others place d (omega arith) within in
    let text = subst (λ (l : Live). GathersNext c.bits.gathered c.put_at-gathered.result (g.O.Sink.seen c.bits.out) (g.O.Sink.seen c.put_at-gathered.new.out) c.bits.lines c.put_at-gathered.new.lines (waiting_text l)) same (c.put_at-gathered.ensures.gathered d) in
    record {
      left = left_more c.args.word c.bits.left c.bits.next place c.without_bit-left.result c.bits.invariant.left few c.lowest_bit-place.ensures.own c.lowest_bit-place.ensures.below c.without_bit-left.ensures.own c.without_bit-left.ensures.others;
      few = omega (arith, few);
      wrote = subst (λ n. WroteFirst n before c.put_at-gathered.new.live) one
          (subst (λ (after : List Live). WroteFirst (suc place) before after) (sym w.set)
          (wrote_more place before c.bits.live d d at within (w.wrote d)));
      gathered = subst (λ n. GatheredSo c.put_at-gathered.result (g.O.Sink.seen c.args.out.now) (g.O.Sink.seen c.put_at-gathered.new.out) c.put_at-gathered.new.lines (flat_map waiting_text (take n before)) (flat_map waiting_text before)) one
          (gathered_next c.bits.gathered c.put_at-gathered.result before place d _ _ _ _ _ within so text);
    }

pub bits-smaller : goal.bits-smaller
bits-smaller g c =
    let next = left_next c.args.word c.bits.left c.bits.next c.lowest_bit-place.result c.bits.invariant.left c.lowest_bit-place.ensures.few c.lowest_bit-place.ensures.own in
    let few = c.lowest_bit-place.ensures.few in
    let le = next.0 in
    omega (arith, le, few)

pub returns-in-Ok-clause-written : goal.returns-in-Ok-clause-written
returns-in-Ok-clause-written g c =
    let before : List Live = c.args.live.now in
    let text = text_all c.bits.next before (λ i l a b. c.requires.quiet.quiet i l b (none_after c.args.word c.bits.left c.bits.next (search rules) c.bits.invariant.left c.bits-test.false i a)) in
    gathered_all c.bits.gathered c.flush.result _ _ _ _ _ _ _ c.in-Ok.is text c.bits.invariant.gathered c.flush.ensures.written

pub returns-in-Err-clause-written : goal.returns-in-Err-clause-written
returns-in-Err-clause-written g c = gathered_fault c.bits.gathered c.in-Err.fault _ _ _ _ _ c.in-Err.is c.bits.invariant.gathered

pub returns-in-Ok-clause-wrote : goal.returns-in-Ok-clause-wrote
returns-in-Ok-clause-wrote g c =
    wrote_rest c.bits.next c.args.live.now c.bits.live c.bits.invariant.wrote (λ i l a b. c.requires.quiet.quiet i l b (none_after c.args.word c.bits.left c.bits.next (search rules) c.bits.invariant.left c.bits-test.false i a))

pub returns-in-Err-clause-wrote : goal.returns-in-Err-clause-wrote
returns-in-Err-clause-wrote g c =
    wrote_rest c.bits.next c.args.live.now c.bits.live c.bits.invariant.wrote (λ i l a b. c.requires.quiet.quiet i l b (none_after c.args.word c.bits.left c.bits.next (search rules) c.bits.invariant.left c.bits-test.false i a))
