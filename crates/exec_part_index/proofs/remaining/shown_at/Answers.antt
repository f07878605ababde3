use Rattle.std.proofs.Common.{◌∙◌, [], ap, arith, length}
use Rattle.std.proofs.lemmas.List.{get_or_default}
use Rattle.exec_part_index.proofs.remaining.shown_at.Goals as goal

pub returns-clause-signs : goal.returns-clause-signs
returns-clause-signs c =
    let many = c.requires.shown.many in
    let inside = c.requires.inside in
    c.as_slice.ensures.value
    ∙ ap (λ s. s.items) (c.index.ensures ∙ get_or_default c.args.tested.now.signs.items c.args.i c.index.result.now (record { items = [] }) (omega (arith, inside, many)))

pub returns-clause-full : goal.returns-clause-full
returns-clause-full c = ap length (returns-clause-signs c) ∙ c.requires.shown.full c.args.i c.requires.inside
