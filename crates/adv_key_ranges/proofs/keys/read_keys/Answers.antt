use Rattle.std.proofs.Common.{◌≡◌, ◌++◌, Option, length, length-append, ap, ◌∙◌, arith}
use Rattle.sem_query.specs.declared.atom.Attr.{Attr}
use Rattle.adv_key_decision.specs.Judged.{by_stream}
use Rattle.adv_key_ranges.specs.Keys.{read_key, read_key_at, read_keys}
use Rattle.adv_key_ranges.proofs.KeyRanges.{read-one, place-more, place-all}
use Rattle.adv_key_ranges.proofs.keys.read_keys.Goals as goal

pub loop-place-preserved : goal.loop-place-preserved
loop-place-preserved c =
    let long : length c.from-place-end.result.now ≡ length c.args.query.now.from = ap length c.from-place-end.ensures.value in
    record {
      is = place-more (read_key_at c.args.query.now (by_stream c.args.choice.now)) (length c.args.query.now.from) c.loop-place.place c.loop-place.list.items _ (omega (arith, c.loop-place-test.true, long)) c.loop-place.invariant.is
          (c.add_read.ensures ∙ ap (λ (o : Option Attr). c.loop-place.list.items ++ read_key c.args.query.now o) c.key_at.ensures);
      few = omega (arith, ap length c.add_read.ensures, length-append c.loop-place.list.items (read_key c.args.query.now c.key_at.result), read-one c.args.query.now c.key_at.result, c.loop-place.invariant.few);
    }

pub returns : goal.returns
unfolding read_keys
returns c =
    let long : length c.from-place-end.result.now ≡ length c.args.query.now.from = ap length c.from-place-end.ensures.value in
    place-all (read_key_at c.args.query.now (by_stream c.args.choice.now)) (length c.args.query.now.from) c.loop-place.place c.loop-place.list.items (omega (arith, c.loop-place-test.false, long)) c.loop-place.invariant.is
