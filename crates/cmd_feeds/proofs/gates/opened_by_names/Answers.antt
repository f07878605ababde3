use Rattle.std.proofs.Common.{◌≡◌, ◌∷◌, [], ◌++◌, ◌∙◌, ℕ, List, Some, filter, sym, ap, subst, arith, IfSome, length, ◌<◌}
use Rattle.std.specs.declared.option.Option.{Option}
use Rattle.std.specs.List.{range_with_len}
use Rattle.std.specs.Option.{option_map}
use Rattle.cmd_feeds.specs.Gates.{is_named}
use Rattle.cmd_feeds.specs.FeedWord.{pieces}
use Rattle.cmd_feeds.proofs.Numbers.{filter-size, filter-more, filter-same, numbers-named}
use Rattle.cmd_feeds.proofs.gates.opened_by_names.Goals.{then-is_named, else-is_named}
use Rattle.cmd_feeds.proofs.gates.opened_by_names.Goals as goal

pub loop-number-init : goal.loop-number-init
loop-number-init c = c.none-opened.ensures

pub add-requires : goal.add-requires
add-requires c =
    let p = is_named c.args.session.now.streams (pieces c.args.text.now) in
    let size = filter-size p 0 c.loop-number.number in
    subst (λ (o : Option (List ℕ)). IfSome o (λ numbers. length numbers < 16)) (sym c.loop-number.invariant) (omega (arith, size, c.loop-number-test.true))

pub loop-number-preserved : goal.loop-number-preserved
loop-number-preserved c =
    let p = is_named c.args.session.now.streams (pieces c.args.text.now) in
    elim c.if-is_named.branch [
      | then-is_named w ↦ w.opened-is ∙ w.add.ensures ∙ ap (option_map (λ numbers. numbers ++ c.loop-number.number ∷ [])) c.loop-number.invariant ∙ ap Some (filter-more p c.loop-number.number (sym c.is_named.ensures ∙ w.if-is_named.true))
      | else-is_named w ↦ w.opened-is ∙ c.loop-number.invariant ∙ ap Some (filter-same p c.loop-number.number (sym c.is_named.ensures ∙ w.if-is_named.false))
    ]

pub returns : goal.returns
returns c =
    let p = is_named c.args.session.now.streams (pieces c.args.text.now) in
    c.loop-number.invariant ∙ ap (λ (n : ℕ). Some (filter p (range_with_len 0 n))) (let z : c.loop-number.number ≡ 16 = omega (arith, c.loop-number-test.false, c.loop-number.auto.number-end) in z) ∙ ap Some (numbers-named c.args.session.now.streams (pieces c.args.text.now))
