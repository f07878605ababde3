use Rattle.std.proofs.Common.{rules, ◌≡◌, ◌∙◌, ap, subst, sym, map, List, ℤ}
use Rattle.fam_fooling_sets.specs.Blanks.{AreBlanks}
use Rattle.fam_fooling_sets.specs.Drawing.{IsFamilyLike}
use Rattle.fam_fooling_sets.specs.Shown.{rows_in}
use Rattle.fam_text.specs.Blank.{blank_row}
use Rattle.fam_text.proofs.BlankRows.{are-blanks, found-over}
use Rattle.fam_text.proofs.making.found_family.Goals as goal

pub moved_family-requires-clause-blanks : goal.moved_family-requires-clause-blanks
moved_family-requires-clause-blanks c =
    let same : rows_in c.as_slice.result.now ≡ map (blank_row c.args.catalog.now) c.args.q.now.from
    = ap rows_in c.as_slice.ensures.value ∙ c.blanks-blanks.ensures ∙ ap (map (blank_row c.args.catalog.now)) c.from.ensures.value in
    subst (AreBlanks c.args.q.now) (sym same) (are-blanks c.args.catalog.now c.args.q.now c.requires.named c.len-streams.ensures.catalog)

pub returns-in-Some : goal.returns-in-Some
returns-in-Some c =
    let same : rows_in c.as_slice.result.now ≡ map (blank_row c.args.catalog.now) c.args.q.now.from
    = ap rows_in c.as_slice.ensures.value ∙ c.blanks-blanks.ensures ∙ ap (map (blank_row c.args.catalog.now)) c.from.ensures.value in
    let found : IsFamilyLike c.args.q.now (rows_in c.as_slice.result.now) c.args.condition c.in-Some.found.attr c.args.n c.in-Some.found.family = search rules in
    found-over c.args.catalog.now c.args.q.now c.requires.named c.len-streams.ensures.catalog c.args.condition c.in-Some.found.attr c.args.n c.in-Some.found.family
    (subst (λ (b : List (List ℤ)). IsFamilyLike c.args.q.now b c.args.condition c.in-Some.found.attr c.args.n c.in-Some.found.family) same found)
