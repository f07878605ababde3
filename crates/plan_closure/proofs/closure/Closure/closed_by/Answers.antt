use Rattle.std.proofs.Common.{◌≡◌, refl, ap, ◌∙◌, ℕ, List, ◌∷◌, ◌+◌, Some, pos, ◌+ℤ◌, ◌≤ℤ◌}
use Rattle.std.proofs.lemmas.Int.{by_lt_z}
use Rattle.plan_closure.specs.ClosureValue.{ClosureValue}
use Rattle.plan_closure.specs.Cycles.{closes, agrees}
use Rattle.plan_closure.proofs.closure.Closure.closed_by.Goals as goal

pub returns-then-closes : goal.returns-then-closes
returns-then-closes c =
    let e : c.self.inside.count ≡ c.args.self.now.count = ap (λ (v : ClosureValue). v.count) c.self.view_is in
    rw (← c.in-Some.ensures) (closes (ap (λ (n : ℕ). Some ((n + 1) ∷ c.walk.result)) e ∙ ap (λ (es : List ℕ). Some ((c.args.self.now.count + 1) ∷ es)) c.walk.ensures) (c.closes.ensures.0 c.if-closes.true))

pub returns-else-closes : goal.returns-else-closes
returns-else-closes c =
    let h : pos 0 ≤ℤ (c.in-Some.back.bound +ℤ c.args.c.bound) = by_lt_z (c.in-Some.back.bound +ℤ c.args.c.bound) (pos 0) (λ l. let y = c.closes.ensures.1 l in absurd cc) (λ l. l) in
    rw (← c.in-Some.ensures) (agrees refl h)
