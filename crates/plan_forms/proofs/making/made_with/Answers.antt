use Rattle.std.proofs.Common.{IfOk, ◌≤◌, length, map, filter, sym, ◌∙◌, subst}
use Rattle.plan_whole.specs.Columns.{atom_of}
use Rattle.sem_forms.specs.Part.{is_soft}
use Rattle.plan_forms.specs.Ordered.{AreOrdered}
use Rattle.plan_forms.proofs.Classed.{own_classes}
use Rattle.plan_forms.proofs.Fitted.{made_is}
use Rattle.plan_forms.proofs.Softly.{few_soft}
use Rattle.plan_forms.proofs.making.made_with.Goals as goal

pub equal_dims-equal-requires-clause-classes : goal.equal_dims-equal-requires-clause-classes
equal_dims-equal-requires-clause-classes c = own_classes c.args.closed.now c.args.part.now c.requires.part c.args.streams.items c.requires.streams c.as_slice.result.now c.as_slice.ensures.value

pub soft_links-requires : goal.soft_links-requires
soft_links-requires c =
    subst (λ z. length (filter is_soft (map atom_of z)) ≤ 16) (sym c.as_slice-links.ensures.value)
    (few_soft c.args.closed.now (map atom_of c.args.part.now.links.items) c.query-query.ensures.formed c.requires.part.plan.links)

pub returns : goal.returns
returns c =
    let ordered = subst (λ r. IfOk r (λ list. AreOrdered c.as_slice-5.result.now list.items)) c.in_ok-local.was c.ascending.ensures in
    made_is c.args.closed.now c.query-query.ensures.formed c.args.part.now c.requires.part
    record { streams = c.args.streams; equal = c.equal_dims-equal.result; less = c.inequalities.result; soft = c.soft_links.result; local = c.of.result; numbers = c.numbers_of-numbers.result; selected = c.copied.result }
    c.as_slice.result.now c.as_slice-2.result.now c.as_slice-3.result.now c.as_slice-4.result.now c.as_slice-5.result.now c.as_slice-links.result.now
    c.requires.streams c.as_slice.ensures.value record { told = c.equal_dims-equal.ensures.equal; ascend = c.equal_dims-equal.ensures.ascending }
    c.as_slice-2.ensures.value c.as_slice-3.ensures.value c.as_slice-4.ensures.value (c.copied.ensures ∙ c.as_slice-6.ensures.value)
    c.numbers_of-numbers.ensures.cells c.numbers_of-numbers.ensures.answers c.numbers_of-numbers.ensures.work
    c.as_slice-5.ensures.value (subst (AreOrdered c.as_slice-5.result.now) (sym c.of.ensures) ordered) c.as_slice-links.ensures.value c.inequalities.ensures c.soft_links.ensures
