use Rattle.std.proofs.Common.{rules, sym, subst, List, ℤ}
use Rattle.arrayvec.specs.ArrayVec.{ArrayVec as Items}
use Rattle.fam_motions.specs.Found.{AreDifferent}
use Rattle.fam_motions.specs.Apart.{AreSolutions}
use Rattle.fam_fooling_sets.specs.Drawing.{IsDrawnFamily}
use Rattle.fam_fooling_sets.specs.Shown.{rows_in}
use Rattle.fam_fooling_sets.proofs.Drawn.{kept-different}
use Rattle.fam_fooling_sets.proofs.moved.by_value.Goals as goal

pub returns-in_ok-drawn-in-Some : goal.returns-in_ok-drawn-in-Some
returns-in_ok-drawn-in-Some c =
    let is : IsDrawnFamily c.args.q.now c.args.attr (rows_in c.args.blanks.now) c.deref.result.now c.in_ok-drawn-in-Some.field-0 = search rules in
    let found : AreSolutions c.args.q.now c.args.n c.in-Some.all.items × AreDifferent c.args.q.now c.in-Some.all.items c.args.attr = search rules in
    let there = subst (λ (all : List (Items ℤ)). AreSolutions c.args.q.now c.args.n all × AreDifferent c.args.q.now all c.args.attr) (sym c.deref.ensures.value) found in
    kept-different c.args.q.now c.args.attr (rows_in c.args.blanks.now) c.deref.result.now c.in_ok-drawn-in-Some.field-0 is c.args.n c.requires.counted (c.is_open_selected.ensures.selected c.if-not-is_open_selected.false) there.0 there.1
