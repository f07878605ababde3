use Rattle.std.proofs.Common.{◌∙◌, ap}
use Rattle.sem_query.specs.Boxes.{box_size}
use Rattle.plan_whole_form.specs.Numbers.{capped}
use Rattle.plan_whole_form.proofs.Counting.{sizes_next, sizes_end}
use Rattle.plan_whole_form.proofs.numbers.sizes.Goals as goal

pub sizes-preserved : goal.sizes-preserved
sizes-preserved c = c.saturating_add-size.ensures ∙ sizes_next c.args.streams.now c.sizes.i _ c.sizes.size c.box_size.result c.sizes-test.true c.sizes.invariant (c.box_size.ensures ∙ ap (λ ds. capped (box_size ds)) c.as_slice.ensures.value)

pub returns : goal.returns
returns c = sizes_end c.args.streams.now c.sizes.i c.sizes.size c.sizes-test.false c.sizes.invariant
