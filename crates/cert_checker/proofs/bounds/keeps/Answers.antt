use Rattle.std.proofs.Common.{◌≡◌, ◌≤ℤ◌, ◌+ℤ◌, pos, neg_ℤ, to_z, of_z, w64, sym, ◌∙◌, arith}
use Rattle.std.proofs.lemmas.Int.{ints}
use Rattle.cert_checker.specs.Bounds.{IsModest}
use Rattle.cert_checker.proofs.Keeping.{keeps_if, modest_at}
use Rattle.cert_checker.proofs.bounds.keeps.Goals as goal

pub returns-in-Some : goal.returns-in-Some
returns-in-Some c =
    let here = sym c.between.ensures ∙ c.in-Some.is in
    let m : IsModest c.in-Some.after = modest_at c.args.bounds.now c.args.c.right c.args.node c.in-Some.after c.requires.modest here in
    let low : neg_ℤ (pos 13000000000000000) ≤ℤ c.in-Some.after = m.low in
    let high : c.in-Some.after ≤ℤ pos 13000000000000000 = m.high in
    let below : neg_ℤ (pos 1000000000000000) ≤ℤ c.args.c.bound = c.requires.within.low in
    let above : c.args.c.bound ≤ℤ pos 1000000000000000 = c.requires.within.high in
    let sum : to_z w64 (of_z w64 (to_z w64 (of_z w64 c.args.c.bound) +ℤ to_z w64 (of_z w64 c.in-Some.after))) ≡ c.args.c.bound +ℤ c.in-Some.after = omega (arith, ints) in
    keeps_if c.args.bounds.now c.args.c c.args.node c.in-Some.after _ c.between-in-Some.result c.is_at_most.result here c.between-in-Some.ensures sum c.is_at_most.ensures
