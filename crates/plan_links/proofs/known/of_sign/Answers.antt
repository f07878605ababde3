use Rattle.std.proofs.Common.{◌∙◌, ap, slice_index_or}
use Rattle.sem_query.specs.declared.part.Sign.{Sign}
use Rattle.plan_closure.specs.Choices.{chosen}
use Rattle.plan_closure.specs.ChoiceValue.{ChoiceValue}
use Rattle.plan_links.proofs.Adding.{adds_choice}
use Rattle.plan_links.proofs.known.of_sign.Goals as goal

pub returns : goal.returns
returns c =
    adds_choice c.args.q.now c.args.choices.now c.args.signs.now c.args.i c.index-choices-i.result Sign.Lt _ c.requires.choices c.requires.pair c.requires.sign
    (c.by.ensures ∙ ap (λ (z : ChoiceValue). chosen z (slice_index_or c.args.signs.now c.args.i Sign.Lt)) c.index-choices-i.is)
