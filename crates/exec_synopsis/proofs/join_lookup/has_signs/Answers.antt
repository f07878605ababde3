use Rattle.std.proofs.Common.{ap, sym, ◌∙◌}
use Rattle.sem_query.specs.Admission.{alone}
use Rattle.exec_synopsis.specs.Preparing.{ask_nothing}
use Rattle.exec_synopsis.proofs.UnaskedLaws.{none-asked}
use Rattle.exec_synopsis.proofs.join_lookup.has_signs.Goals as goal

pub returns : goal.returns
returns c = λ told v inside.
    c.requires c.args.place v inside
    ∙ none-asked c.args.place (alone v) c.args.pairs.now c.args.part.now.signs.items c.args.tests.now
    (ap (λ ss. ask_nothing c.args.place c.args.pairs.now ss c.args.tests.now) (sym c.as_slice.ensures.value) ∙ sym c.ask_nothing.ensures ∙ told)
