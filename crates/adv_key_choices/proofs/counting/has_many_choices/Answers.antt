use Rattle.std.proofs.Common.{◌≡◌, ℕ, ◌+◌, ◌*◌, take, get_or, refl, ap, ◌∙◌, arith}
use Rattle.adv_key_choices.specs.Counting.{choice_count}
use Rattle.adv_key_choices.proofs.Counted.{counted-more, many-counted, all-counted}
use Rattle.adv_key_choices.proofs.counting.has_many_choices.Goals as goal

pub returns-then-count-gt-MOST_CHOICES : goal.returns-then-count-gt-MOST_CHOICES
returns-then-count-gt-MOST_CHOICES c =
    let f : c.from.result ≡ get_or c.args.widths.now c.loop-i.i 0 = c.from.ensures in
    let e : c.loop-i.count * (c.from.result + 1) ≡ choice_count (take (c.loop-i.i + 1) c.args.widths.now) =
    ap (λ (z : ℕ). c.loop-i.count * (z + 1)) f ∙ counted-more c.args.widths.now c.loop-i.i 0 c.loop-i.count c.loop-i-test.true c.loop-i.invariant.0 in
    ((λ h. many-counted c.args.widths.now (c.loop-i.i + 1) _ e c.if-count-gt-MOST_CHOICES.true), (λ h. refl))

pub loop-i-preserved : goal.loop-i-preserved
loop-i-preserved c =
    let f : c.from.result ≡ get_or c.args.widths.now c.loop-i.i 0 = c.from.ensures in (
      ap (λ (z : ℕ). c.loop-i.count * (z + 1)) f ∙ counted-more c.args.widths.now c.loop-i.i 0 c.loop-i.count c.loop-i-test.true c.loop-i.invariant.0,
      omega (arith, c.if-count-gt-MOST_CHOICES.false),
    )

pub returns : goal.returns
returns c = ((λ h. cc), (λ h. absurd (all-counted c.args.widths.now c.loop-i.i c.loop-i.count c.loop-i.invariant.0 c.loop-i.invariant.1 c.loop-i-test.false h)))
