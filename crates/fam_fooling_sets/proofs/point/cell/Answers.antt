use Rattle.std.proofs.Common.{rules, ◌≡◌, ◌∙◌, true, subst, arith, pos, slice_index_or, to_z, of_z, w64}
use Rattle.std.proofs.lemmas.Int.{to_z-of_z}
use Rattle.sem_query.specs.declared.atom.Attr.{Attr}
use Rattle.sem_query.specs.Query.{attr_eq}
use Rattle.sem_laws.proofs.Tests.{not_both, attr_eq-itself}
use Rattle.fam_fooling_sets.proofs.Cells.{cell-there, cell-past}
use Rattle.fam_fooling_sets.proofs.point.cell.Goals as goal

pub returns-then-place-point : goal.returns-then-place-point
returns-then-place-point c =
    let w : to_z w64 (of_z w64 c.narrow-then-place-point.result) ≡ c.narrow-then-place-point.result = to_z-of_z w64 c.narrow-then-place-point.result (search rules) in
    let r : c.narrow-then-place-point.result ≡ slice_index_or c.args.point.now.values.now c.place_of-place.result (pos 0) = search rules in
    w ∙ r
    ∙ cell-there _ _ _ _ _ _ c.place_of-place.result (λ e. not_both _ (c.eq.ensures ∙ subst (λ (z : Attr). attr_eq c.args.attr z ≡ true) e (attr_eq-itself c.args.attr)) c.if-eq.false) c.place_of-place.ensures.value c.if-place-point.true c.requires.many

pub returns-else-place-point : goal.returns-else-place-point
returns-else-place-point c =
    let w : to_z w64 (of_z w64 c.args.blank) ≡ c.args.blank = to_z-of_z w64 c.args.blank (search rules) in
    w ∙ cell-past _ _ _ _ _ _ c.place_of-place.result (λ e. not_both _ (c.eq.ensures ∙ subst (λ (z : Attr). attr_eq c.args.attr z ≡ true) e (attr_eq-itself c.args.attr)) c.if-eq.false) c.place_of-place.ensures.value (let l = c.if-place-point.false in omega (arith, l)) c.requires.many
