use Rattle.std.proofs.Common.{◌≡◌, refl, arith, ◌+ℤ◌, to_z, of_z, w64, IsTrue}
use Rattle.std.proofs.lemmas.Int.{ints}
use Rattle.plan_closure.specs.Entries.{replaced, Improves}
use Rattle.plan_closure.proofs.Rows.{kept_if}
use Rattle.plan_closure.proofs.entry.better.Goals as goal

pub returns-then-not-is_lower : goal.returns-then-not-is_lower
returns-then-not-is_lower c =
    let same : to_z w64 (of_z w64 c.total-sum.result) ≡ c.args.head.bound +ℤ c.args.after.bound = omega (arith, ints, c.total-sum.ensures) in
    let f : Improves c.args.now (c.args.head.bound +ℤ c.args.after.bound) → IsTrue c.is_lower.result = rw same at c.is_lower.ensures.1 in
    kept_if c.args.now c.args.head c.args.after (c.args.head.bound +ℤ c.args.after.bound) refl (λ h. let y = f h in cc)

pub returns : goal.returns
returns c =
    let same : to_z w64 (of_z w64 c.total-sum.result) ≡ c.args.head.bound +ℤ c.args.after.bound = omega (arith, ints, c.total-sum.ensures) in
    let low : Improves c.args.now (c.args.head.bound +ℤ c.args.after.bound) = rw same at (c.is_lower.ensures.0 c.if-not-is_lower.false) in
    replaced _ refl same refl refl refl low
