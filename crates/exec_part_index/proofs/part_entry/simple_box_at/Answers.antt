use Rattle.std.proofs.Common.{◌∙◌, Some, sym, ap, subst}
use Rattle.std.proofs.lemmas.Option.{slice_get-get_or, get_or_from_slice_get}
use Rattle.sem_query.specs.declared.plan.PartPlan.{PartPlan}
use Rattle.exec_part_index.specs.SimpleBox.{IsSimpleBox}
use Rattle.exec_part_index.proofs.part_entry.simple_box_at.Goals as goal

pub simple_box_in-requires : goal.simple_box_in-requires
simple_box_in-requires c =
    c.prepared_of-prepared.ensures c.get.result.now
    (slice_get-get_or c.args.parts.now c.args.i c.get.result.now c.requires.inside ∙ ap (λ (p : PartPlan). Some p) (sym (c.get.ensures c.get.result.now)))

pub returns : goal.returns
returns c = λ part at_i.
    subst (λ p. IsSimpleBox p c.args.place c.simple_box_in.result) (c.get.ensures part ∙ get_or_from_slice_get c.args.parts.now c.args.i part part at_i) c.simple_box_in.ensures
