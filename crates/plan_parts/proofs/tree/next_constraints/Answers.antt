use Rattle.std.proofs.Common.{◌∙◌, ap}
use Rattle.plan_closure.specs.Choices.{chosen}
use Rattle.plan_closure.specs.ChoiceValue.{ChoiceValue}
use Rattle.plan_parts.proofs.Steps.{adds_choice}
use Rattle.plan_parts.proofs.tree.next_constraints.Goals as goal

pub returns : goal.returns
returns c =
    adds_choice c.args.q.now c.args.choices.now c.args.signs.now c.args.sign c.index-choices-signs.result _ c.requires.choices c.requires.room
    (c.by.ensures ∙ ap (λ (z : ChoiceValue). chosen z c.args.sign) c.index-choices-signs.is)
