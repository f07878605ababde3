use Rattle.std.proofs.Common.{◌≡◌, ◌∙◌, ap, subst, sym, map, List, ℤ}
use Rattle.fam_fooling_sets.specs.Blanks.{AreBlanks}
use Rattle.fam_fooling_sets.specs.Lowered.{Lowers}
use Rattle.fam_fooling_sets.specs.Shown.{rows_in}
use Rattle.fam_text.specs.Blank.{blank_row}
use Rattle.fam_text.proofs.BlankRows.{are-blanks, answered}
use Rattle.fam_text.proofs.making.family.Goals as goal

pub family_over-requires-clause-blanks : goal.family_over-requires-clause-blanks
family_over-requires-clause-blanks c =
    let same : rows_in c.as_slice.result.now ≡ map (blank_row c.args.catalog.now) c.args.q.now.from
    = ap rows_in c.as_slice.ensures.value ∙ c.blanks-blanks.ensures ∙ ap (map (blank_row c.args.catalog.now)) c.from.ensures.value in
    subst (AreBlanks c.args.q.now) (sym same) (are-blanks c.args.catalog.now c.args.q.now c.requires.named c.len-streams.ensures.catalog)

pub returns : goal.returns
returns c =
    let same : rows_in c.as_slice.result.now ≡ map (blank_row c.args.catalog.now) c.args.q.now.from
    = ap rows_in c.as_slice.ensures.value ∙ c.blanks-blanks.ensures ∙ ap (map (blank_row c.args.catalog.now)) c.from.ensures.value in
    answered c.args.catalog.now c.args.q.now c.requires.named c.len-streams.ensures.catalog c.args.decision.now c.args.n c.family_over.result
    (subst (λ (b : List (List ℤ)). Lowers c.args.q.now b c.args.decision.now c.args.n c.family_over.result) same c.family_over.ensures)
