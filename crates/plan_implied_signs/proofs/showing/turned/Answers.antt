use Rattle.std.proofs.Common.{rules, ◌≡◌, ◌∙◌, ℤ, pos, ◌+ℤ◌, sym, ap, w64}
use Rattle.std.specs.Int.{w128}
use Rattle.std.proofs.lemmas.Int.{to_z-of_z}
use Rattle.sem_query.specs.Assignment.{compares}
use Rattle.plan_implied_signs.proofs.showing.turned.Goals as goal

pub returns : goal.returns
returns c = λ x y.
    let moved : c.args.by +ℤ c.opposite.result ≡ pos 0
    = ap (λ (k : ℤ). k +ℤ c.opposite.result) (sym (to_z-of_z w64 c.args.by (search rules))) ∙ c.opposite.ensures in
    c.flipped.ensures x y c.args.by c.opposite.result moved
    ∙ ap (λ (k : ℤ). compares c.flipped.result x (y +ℤ k)) (sym (to_z-of_z w128 c.opposite.result (search rules)))
