use Rattle.std.proofs.Common.{rules, sym, subst, List, ℤ}
use Rattle.arrayvec.specs.ArrayVec.{ArrayVec as Items}
use Rattle.fam_motions.specs.Found.{AreApartAsNext}
use Rattle.fam_fooling_sets.specs.Drawing.{IsDrawnFamily}
use Rattle.fam_fooling_sets.specs.Shown.{rows_in}
use Rattle.fam_fooling_sets.proofs.Drawn.{kept-apart-as-next}
use Rattle.fam_fooling_sets.proofs.moved.by_next.Goals as goal

pub returns-in_ok-drawn-in-Some : goal.returns-in_ok-drawn-in-Some
returns-in_ok-drawn-in-Some c =
    let is : IsDrawnFamily c.args.q.now c.args.attr (rows_in c.args.blanks.now) c.deref.result.now c.in_ok-drawn-in-Some.field-0 = search rules in
    let found : AreApartAsNext c.args.q.now c.args.attr.stream c.args.n c.in-Some.all.items = search rules in
    kept-apart-as-next c.args.q.now c.args.attr (rows_in c.args.blanks.now) c.deref.result.now c.in_ok-drawn-in-Some.field-0 is c.args.condition c.args.n c.requires.inequality c.requires.plain c.requires.several c.requires.named
    (subst (λ (all : List (Items ℤ)). AreApartAsNext c.args.q.now c.args.attr.stream c.args.n all) (sym c.deref.ensures.value) found)
