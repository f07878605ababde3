use Rattle.std.proofs.Common.{◌≡◌, sym, ◌∙◌, ap, subst, arith, ◌+ℤ◌, to_z, of_z, w64, Some}
use Rattle.std.proofs.lemmas.Int.{ints}
use Rattle.plan_closure.specs.Answers.{IsSmall}
use Rattle.plan_closure.specs.Shortest.{bound_of, between}
use Rattle.plan_closure.proofs.Lowering.{kept_if}
use Rattle.plan_closure.proofs.distance.is_lowered.Goals as goal

pub returns-in-Some : goal.returns-in-Some
returns-in-Some c = λ f.
    let is : between c.args.table.now c.args.right c.args.j ≡ Some c.in-Some.after = sym (ap bound_of c.at-after.ensures) ∙ sym c.bound_of.ensures ∙ c.in-Some.is in
    let s : IsSmall (Some c.in-Some.after) = subst IsSmall is c.requires.small in
    let exact : to_z w64 (of_z w64 c.total-sum.result) ≡ c.args.bound +ℤ c.in-Some.after = omega (arith, ints, c.total-sum.ensures, s.0, s.1, c.requires.low, c.requires.high) in
    kept_if (between c.args.table.now) c.args.left c.args.right c.args.bound c.args.j c.in-Some.after is (λ u. let y = c.is_below.ensures.1 (rw (c.at-there.ensures, exact) u) in cc)
