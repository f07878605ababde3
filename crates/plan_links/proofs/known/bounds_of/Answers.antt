use Rattle.std.proofs.Common.{◌≡◌, ap, sym, ◌∙◌}
use Rattle.plan_constraints.proofs.Prefix.{of_no_prefix}
use Rattle.plan_links.specs.BasisValue.{BasisValue}
use Rattle.plan_links.proofs.Adding.{choice_there, room_for}
use Rattle.plan_links.proofs.known.bounds_of.Goals as goal

pub loop-i-init : goal.loop-i-init
loop-i-init c = record {
  attrs = c.of_query-bounds.ensures.attrs;
  constraints = c.of_query-bounds.ensures.constraints ∙ sym (of_no_prefix c.args.q.now);
  few = c.of_query-bounds.ensures.few;
}

pub of_sign-requires-clause-pair : goal.of_sign-requires-clause-pair
of_sign-requires-clause-pair c =
    let e : c.basis.inside.choices.items ≡ c.args.basis.now.choices = ap (λ (v : BasisValue). v.choices) c.basis.view_is in
    choice_there c.args.q.now _ _ c.loop-i.i (rw (c.as_slice-choices.ensures.value, e) c.requires.basis.choices) c.requires.part (rw c.as_slice-signs.ensures.value at c.loop-i-test.true)

pub add_all-requires-clause-few : goal.add_all-requires-clause-few
add_all-requires-clause-few c = room_for c.args.q.now _ c.loop-i.i _ _ c.requires.part c.requires.basis.within (rw c.as_slice-signs.ensures.value at c.loop-i-test.true) c.loop-i.invariant.few c.of_sign.ensures.few
